use Rattle.std.proofs.Common.{◌+◌, ◌∙◌, refl, sym, ap, subst, arith, take, drop, length, Err}
use Rattle.std.specs.Prelude.{count_by}
use Rattle.std.specs.List.{prefix_len}
use Rattle.std.proofs.lemmas.Result.{IfOk-at_ok}
use Rattle.vvp_lex.specs.Text.{is_line_feed, is_white, cut}
use Rattle.vcd_read.specs.Words.{spot_front}
use Rattle.vcd_read.specs.Reading.{run, start, finish, fault_of, Reads}
use Rattle.vcd_read.specs.Sound.{IsSound}
use Rattle.vcd_read.proofs.SpotLemmas.{rest_of, spots-begin, spots-end, line_at-later, line_at-end}
use Rattle.vcd_read.proofs.SoundLemmas.{sound-start, sound-later, step-keeps, finish-trace}
use Rattle.vcd_read.proofs.ReadLemmas.{stops, goes, left-here}
use Rattle.vcd_read.proofs.reader.read.Goals as goal

pub loop-at-init : goal.loop-at-init
loop-at-init c =
    let bytes = c.args.bytes.now in
    let begins = spots-begin bytes c.white_len-at.result c.white_len-at.ensures.value in
    record {
      stands = begins.0;
      line = ap (λ n. 1 + n) c.line_feeds-line.ensures.value;
      sound = subst (IsSound c.white_len-at.result) (sym c.new-reader.ensures) (sound-start c.white_len-at.result);
      left = ap (λ spots. run (1 + count_by is_line_feed bytes) spots start) begins.1 ∙ ap (λ reader. run (1 + count_by is_line_feed bytes) (cut (spot_front bytes) c.white_len-at.result 0 (drop c.white_len-at.result bytes)) reader) (sym c.new-reader.ensures);
    }

pub returns-in-Err : goal.returns-in-Err
returns-in-Err c =
    let bytes = c.args.bytes.now in
    let at = c.loop-at.at in
    let kept = c.loop-at.invariant in
    let len = c.spot_len-len.result in
    let n = prefix_len is_white (rest_of (rest_of bytes at) len) in
    let here = left-here bytes at kept.stands c.loop-at-test.true len n c.loop-at.line (1 + count_by is_line_feed bytes) c.loop-at.reader c.spot_len-len.ensures.value c.spot_len-len.ensures.within refl kept.line kept.left in
    let spots = cut (spot_front bytes) (at + (len + n)) 0 (drop (at + (len + n)) bytes) in
    record {
      exact = rw c.fault_of.ensures (subst (λ read. Reads (Err (fault_of c.in-Err.stop c.loop-at.line)) read) (sym here.1) (stops c.in-Err.stop c.loop-at.line (1 + count_by is_line_feed bytes) c.loop-at.reader c.step.new.self (take len (rest_of bytes at)) spots c.in-Err.ensures));
      of_nets = tt;
    }

pub returns : goal.returns
returns c =
    let bytes = c.args.bytes.now in
    let kept = c.loop-at.invariant in
    let past = c.loop-at-test.false in
    let ends = kept.left ∙ ap (λ spots. run (1 + count_by is_line_feed bytes) spots c.loop-at.reader) (spots-end bytes c.loop-at.at past) ∙ ap (finish c.loop-at.reader) (sym (kept.line ∙ line_at-end bytes c.loop-at.at past)) in
    record {
      exact = subst (Reads c.finish.result) (sym ends) c.finish.ensures;
      of_nets = finish-trace c.loop-at.at (length bytes) c.loop-at.reader c.loop-at.line c.finish.result kept.stands.in_range kept.sound c.finish.ensures;
    }

pub loop-at-preserved : goal.loop-at-preserved
loop-at-preserved c =
    let bytes = c.args.bytes.now in
    let at = c.loop-at.at in
    let kept = c.loop-at.invariant in
    let len = c.spot_len-len.result in
    let n = c.white_len.result in
    let here = left-here bytes at kept.stands c.loop-at-test.true len n c.loop-at.line (1 + count_by is_line_feed bytes) c.loop-at.reader c.spot_len-len.ensures.value c.spot_len-len.ensures.within c.white_len.ensures.value kept.line kept.left in
    let word = take len (rest_of bytes at) in
    let spots = cut (spot_front bytes) (at + (len + n)) 0 (drop (at + (len + n)) bytes) in
    record {
      stands = here.0;
      line = omega (arith, kept.line, c.line_feeds-line-in-loop-at.ensures.value, line_at-later bytes at (len + n));
      sound = sound-later _ _ c.step.new.self (omega (arith, c.spot_len-len.ensures.value)) (IfOk-at_ok (IsSound _) c.in_default.ensures (step-keeps at c.loop-at.reader word kept.sound));
      left = here.1 ∙ goes c.loop-at.line (1 + count_by is_line_feed bytes) c.loop-at.reader c.step.new.self word spots c.in_default.ensures;
    }
