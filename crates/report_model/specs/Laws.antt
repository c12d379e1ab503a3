-- A law over reports.
use Rattle.std.specs.Prelude.{◌≡◌, ◌+◌, List, [], ◌∷◌, ◌++◌, length}
use Rattle.mem_base.specs.declared.history.Entry.{Entry}
use Rattle.trace_model.specs.Plain.{PlainTrack}
use Rattle.event_model.specs.History.{last_state}
use Rattle.report_model.specs.Report.{Printer, texts_of}

-- whatever is printed of each event, that of one more event comes last
abbrev pub OneMoreText : Type 0
OneMoreText = (text : Printer) (tracks : List PlainTrack) (es : List Entry) (e : Entry)
    → texts_of text tracks (es ++ e ∷ [])
    ≡ texts_of text tracks es ++ text (length es + 1) (last_state tracks es) e
