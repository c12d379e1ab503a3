use Rattle.std.proofs.Common.{◌++◌, take, arith, length-append}
use Rattle.std.proofs.KnownBytes.{Consumes-trans}
use Rattle.streams.proofs.all.read_all.Goals as goal

pub returns-then-len-count-clause-too_long : goal.returns-then-len-count-clause-too_long
returns-then-len-count-clause-too_long g c = λ is.
    let before = c.loop-bytes.bytes.items in
    let given = take c.in_ok-count.count c.read.new.buf in
    record {
      given = before ++ given;
      gone = Consumes-trans _ _ _ _ _ c.loop-bytes.invariant.gone c.in_ok-count.ensures.bytes.0;
      long = omega (arith, c.if-len-count.true, c.len.ensures, length-append before given, c.in_ok-count.ensures.bound.1);
    }

pub returns-in_err-extend_from_slice-clause-no_memory : goal.returns-in_err-extend_from_slice-clause-no_memory
returns-in_err-extend_from_slice-clause-no_memory g c = λ is.
    let before = c.loop-bytes.bytes.items in
    let given = take c.in_ok-count.count c.read.new.buf in
    record {
      given = before ++ given;
      gone = Consumes-trans _ _ _ _ _ c.loop-bytes.invariant.gone c.in_ok-count.ensures.bytes.0;
      short = omega (arith, c.if-len-count.false, c.len.ensures, length-append before given, c.in_ok-count.ensures.bound.1);
    }
