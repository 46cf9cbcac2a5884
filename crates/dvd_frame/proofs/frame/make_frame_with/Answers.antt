-- The proof of `make_frame_with` in src/frame.rt.
use Rattle.std.proofs.Common.{◌≡◌, ℕ, ◌+◌, ◌++◌, List, length, take, ap, sym, ◌∙◌, arith}
use Rattle.dvd_frame.specs.Edc.{edc_of}
use Rattle.dvd_frame.specs.Id.{word_bytes}
use Rattle.dvd_frame.proofs.FrameParts.{frame_written}
use Rattle.dvd_frame.proofs.frame.make_frame_with.Goals as goal

pub returns : goal.returns
returns c =
    let put_id : take (0 + length (word_bytes c.args.id)) c.put.new.out ≡ take 0 c.args.out.now ++ word_bytes c.args.id =
    ap (λ (bytes : List ℕ). take (0 + length bytes) c.put.new.out) (sym c.bytes.ensures) ∙ c.put.ensures ∙ ap (λ (bytes : List ℕ). take 0 c.args.out.now ++ bytes) c.bytes.ensures in
    let before_check : 12 + length c.args.main.now ≡ 2060 = omega arith in
    frame_written c.args.id c.args.rule c.args.cpr.now c.args.main.now c.ied.result c.edc_of_parts-check.result
    c.args.out.now c.put.new.out c.put-2.new.out c.put-3.new.out c.put-4.new.out c.put-5.new.out c.scramble_slice.new.main
    (omega arith) (omega arith) (omega arith) (omega arith) (omega arith)
    put_id c.put-2.ensures c.put-3.ensures c.put-4.ensures c.put-5.ensures c.ied.ensures.value
    (c.edc_of_parts-check.ensures ∙ ap edc_of (sym c.put-4.ensures ∙ ap (λ (n : ℕ). take n c.put-4.new.out) before_check)) c.scramble_slice.ensures
