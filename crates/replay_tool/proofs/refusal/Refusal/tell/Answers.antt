use Rattle.std.proofs.Common.{sym, ap}
use Rattle.replay_tool.specs.declared.status.Halt.TheVariants.{WriteFault}
use Rattle.replay_tool.specs.Refusals.{line_of}
use Rattle.replay_tool.proofs.Texts.{halt_is, wrote_is, broke_is}
use Rattle.replay_tool.proofs.refusal.Refusal.tell.Goals as goal

pub returns-in_err-write_all-in-Usage-clause-told : goal.returns-in_err-write_all-in-Usage-clause-told
returns-in_err-write_all-in-Usage-clause-told g c =
    rw (halt_is c.from_residual.result WriteFault c.from_residual.ensures.1)
    (broke_is _ _ _ _ _ _ (ap line_of (sym c.in-Usage.is)) c.in_err-write_all-in-Usage.ensures.part c.in_err-write_all-in-Usage.ensures.counted)

pub returns-in_err-write_all-in-TooLong-clause-told : goal.returns-in_err-write_all-in-TooLong-clause-told
returns-in_err-write_all-in-TooLong-clause-told g c =
    rw (halt_is c.from_residual-in_err-write_all-in-TooLong.result WriteFault c.from_residual-in_err-write_all-in-TooLong.ensures.1)
    (broke_is _ _ _ _ _ _ (ap line_of (sym c.in-TooLong.is)) c.in_err-write_all-in-TooLong.ensures.part c.in_err-write_all-in-TooLong.ensures.counted)

pub returns-in_ok-write_all-in-Usage-clause-told : goal.returns-in_ok-write_all-in-Usage-clause-told
returns-in_ok-write_all-in-Usage-clause-told g c =
    wrote_is _ _ _ _ _ _ (ap line_of (sym c.in-Usage.is)) c.in_ok-write_all-in-Usage.ensures.whole c.in_ok-write_all-in-Usage.ensures.counted

pub returns-in_ok-write_all-in-ReadFault-clause-told : goal.returns-in_ok-write_all-in-ReadFault-clause-told
returns-in_ok-write_all-in-ReadFault-clause-told g c =
    wrote_is _ _ _ _ _ _ (ap line_of (sym c.in-ReadFault.is)) c.in_ok-write_all-in-ReadFault.ensures.whole c.in_ok-write_all-in-ReadFault.ensures.counted

pub returns-in_ok-write_all-in-TooLong-clause-told : goal.returns-in_ok-write_all-in-TooLong-clause-told
returns-in_ok-write_all-in-TooLong-clause-told g c =
    wrote_is _ _ _ _ _ _ (ap line_of (sym c.in-TooLong.is)) c.in_ok-write_all-in-TooLong.ensures.whole c.in_ok-write_all-in-TooLong.ensures.counted
