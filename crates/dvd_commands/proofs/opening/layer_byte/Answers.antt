-- The proof of `layer_byte` in src/opening.rt.
use Rattle.std.proofs.Common.{◌≡◌, ◌≢◌, ℕ, zero, suc, refl, sym, ap}
use Rattle.dvd_commands.specs.Opening.{layer_byte}
use Rattle.dvd_commands.proofs.opening.layer_byte.Goals as goal

-- any other layer
other : (n : ℕ) → n ≢ 0 → 16 ≡ layer_byte n
other zero not = absurd (not refl)
other (suc n) not = refl

pub returns-then-layer-eq0 : goal.returns-then-layer-eq0
returns-then-layer-eq0 c = ap layer_byte (sym c.if-layer-eq0.true)

pub returns-else-layer-eq0 : goal.returns-else-layer-eq0
returns-else-layer-eq0 c = other c.args.layer c.if-layer-eq0.false
