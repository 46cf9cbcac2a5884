-- The proof of `Deep::sectors` in src/sectors.rt.
use Rattle.std.proofs.Common.{◌≡◌, List, ℕ, drop, length, replicate, sym, subst, arith}
use Rattle.std.specs.Prelude.{OnErr}
use Rattle.dvd_deep.proofs.Mains.{all-written}
use Rattle.dvd_deep.proofs.deep.Deep.sectors.Goals as goal

pub returns-clause-zeros : goal.returns-clause-zeros
returns-clause-zeros c =
    let size : length c.read_frames.new.out ≡ c.args.out.now.bytes.len = omega (arith, c.read_frames.ensures.size, c.args.out.now.size) in
    subst (λ (l : List ℕ). OnErr c.read_frames.result (l ≡ replicate 32768 0))
    (sym (all-written c.args.out.now.bytes.len c.read_frames.new.out (drop (length c.read_frames.new.out) c.args.out.now.bytes.items) size)) c.read_frames.ensures.zeros
