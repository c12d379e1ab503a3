-- From the end of a report to the end of its replay.
use Rattle.std.proofs.Common.{◌≡◌, ◌⊎◌, inl, inr, List, [], Result, Ok, Err, refl, sym, subst, Bool, true, false}
use Rattle.std.specs.Prelude.{if◌then◌else◌}
use Rattle.extents.specs.Extent.{Extent}
use Rattle.sources.specs.Holder.{Traded}
use Rattle.event_model.specs.History.{last_state}
use Rattle.domain_api.specs.Held.{AreAskedNothing}
use Rattle.replay_tool.specs.declared.status.Halt.{Halt}
use Rattle.replay_tool.specs.declared.status.Halt.TheVariants as halt
use Rattle.replay_tool.specs.declared.status.Status.{Status}
use Rattle.replay_tool.specs.declared.status.Status.TheVariants.{Done, Faulted, Usage, FaultyLine, ReadFault}
use Rattle.replay_tool.specs.declared.status.Status.TheVariants.{WriteFault, OutOfMemory, TooLong}
use Rattle.replay_tool.specs.Replays.{Replay, RanWhole, BrokeInEvent, BrokeAtEnd, ReportEnds, ReportStops}
use Rattle.replay_tool.specs.Replays.{ReplayEnds, status_at, the_report}
use Rattle.replay_tool.specs.Served.{Served, ServedNearly, Sources}
use Rattle.replay_tool.specs.Status.{halted}
use Rattle.replay_tool.proofs.ServedLaws.{served_ended, nearly_ended}

module _ {T : Type 0} where
  -- a report that was written to its end
  pub ends_whole : (r : Replay) (result : Result T Halt) (x : T) (s : Status) → ReportEnds r result → result ≡ Ok x → s ≡ status_at (last_state r.tracks r.entries) → ReplayEnds r s
  ends_whole r result x s ended is status_is = subst (ReplayEnds r) (sym status_is) (by (last_state r.tracks r.entries).faulted refl)
    where
      whole : RanWhole the_report r
      whole = subst (λ (e : Result T Halt). ReportEnds r e) is ended

      by : (b : Bool) → (last_state r.tracks r.entries).faulted ≡ b → ReplayEnds r (if b then Faulted else Done)
      by true e = (whole, e)
      by false e = (whole, e)

  -- a report that was given up
  pub ends_halted : (r : Replay) (result : Result T Halt) (h : Halt) (s : Status) → ReportEnds r result → result ≡ Err h → s ≡ halted h → ReplayEnds r s
  ends_halted r result h s ended is status_is = subst (ReplayEnds r) (sym status_is) (by h (subst (λ (e : Result T Halt). ReportEnds r e) is ended))
    where
      by : (h : Halt) → ReportStops r h → ReplayEnds r (halted h)
      by halt.WriteFault e = e
      by halt.OutOfMemory e = e

-- all that is held goes back, and the replay ended as before
module _ (r : Replay) (last : Sources) (arenas raws : List Extent) (none : AreAskedNothing r.sources_then.arenas last.arenas r.sources_then.raw last.raw)
    (arenas_back : Traded arenas [] r.sources_then.arenas last.arenas) (raws_back : Traded raws [] r.sources_then.raw last.raw) where
  abbrev after_all : Replay
  after_all = record r { sources_then = last }

  served_then : Served r.tracks r.entries r.sources r.sources_then → Served r.tracks r.entries r.sources last
  served_then served = served_ended r.tracks r.entries arenas raws r.sources r.sources_then last served none arenas_back raws_back

  nearly_then : ServedNearly r.tracks r.entries r.sources r.sources_then → ServedNearly r.tracks r.entries r.sources last
  nearly_then served = nearly_ended r.tracks r.entries arenas raws r.sources r.sources_then last served none arenas_back raws_back

  whole_then : RanWhole the_report r → RanWhole the_report after_all
  whole_then w = record { legal = w.legal; follows = w.follows; whole = w.whole; written = w.written; served = served_then w.served }

  broke_then : BrokeInEvent the_report r ⊎ BrokeAtEnd the_report r → BrokeInEvent the_report after_all ⊎ BrokeAtEnd the_report after_all
  broke_then (inl e) = inl (record { earlier = e.earlier; last = e.last; text = e.text; all = e.all; adds = e.adds; written = e.written })
  broke_then (inr e) = inr (record { whole = e.whole; written = e.written })

  pub gives_back : (s : Status) → ReplayEnds r s → ReplayEnds after_all s
  gives_back Done e = (whole_then e.0, e.1)
  gives_back Faulted e = (whole_then e.0, e.1)
  gives_back WriteFault e = record { legal = e.legal; follows = e.follows; broke = broke_then e.broke; served = served_then e.served }
  gives_back OutOfMemory e = record { legal = e.legal; follows = e.follows; earlier = e.earlier; later = e.later; all = e.all; few = e.few; written = e.written; served = nearly_then e.served }
  gives_back Usage e = absurd e
  gives_back FaultyLine e = absurd e
  gives_back ReadFault e = absurd e
  gives_back TooLong e = absurd e
