-- The proof of `is_sector` in src/exercise.rt.
use Rattle.std.proofs.Common.{◌≡◌, ◌∙◌, ◌+◌, ◌-◌, ◌*◌, ap, arith, drop, take}
use Rattle.std.specs.Str.{bytes_eq}
use Rattle.coding.specs.Product.{line}
use Rattle.dvd_capture.specs.Works.{sectors_of}
use Rattle.dvd_commands.proofs.exercise.is_sector.Goals as goal

pub returns : goal.returns
returns c =
    let f = c.args.f in
    let size : 2048 * f + 2048 - 2048 * f ≡ 2048 = omega arith in
    c.eq.ensures
    ∙ ap (λ l. bytes_eq l (take (2048 * f + 2048 - 2048 * f) (drop (2048 * f) c.args.image.now))) c.sector.ensures.value
    ∙ ap (λ n. bytes_eq (line (sectors_of c.args.work.now) f) (take n (drop (2048 * f) c.args.image.now))) size
