-- The proof of `alternating` in src/transposing.rt.
use Rattle.std.proofs.Common.{◌≡◌, ℕ, ◌+◌, ◌*◌, ◌/◌, ◌%◌, ◌<◌, List, [], ◌∷◌, get_or, ap, ◌∙◌, arith}
use Rattle.coding.specs.Rows.{place}
use Rattle.rs_lanes.proofs.Tiles.{Alternate, alternate_four, by_four}
use Rattle.rs_lanes.proofs.transposing.alternating.Goals as goal

-- lanes that alternate from the first on
from_first : (x y z : List ℕ) → ((n : ℕ) → n < 32 → n % 2 ≡ 0 → get_or z n 0 ≡ get_or x (16 * (n / 16) + n % 16 / 2) 0)
    → ((n : ℕ) → n < 32 → n % 2 ≡ 1 → get_or z n 0 ≡ get_or y (16 * (n / 16) + n % 16 / 2) 0) → Alternate 0 x y z
from_first x y z even odd = (
  (λ n below is. even n below is ∙ ap (λ m. get_or x m 0) {y = 16 * (n / 16) + (8 * 0 + n % 16 / 2)} (omega arith)),
  (λ n below is. odd n below is ∙ ap (λ m. get_or y m 0) {y = 16 * (n / 16) + (8 * 0 + n % 16 / 2)} (omega arith)),
)

pub returns-clause-each : goal.returns-clause-each
returns-clause-each c = λ q n few below.
    let a = c.args.a in
    let b = c.args.b in
    let third = c.args.c in
    let d = c.args.d in
    let first_even = c.first_lanes-first_even in
    let last_even = c.last_lanes-last_even in
    let first_odd = c.first_lanes-first_odd in
    let last_odd = c.last_lanes-last_odd in
    let evens : Alternate 0 a third first_even.result = from_first a third first_even.result first_even.ensures.even first_even.ensures.odd in
    let odds : Alternate 0 b d first_odd.result = from_first b d first_odd.result first_odd.ensures.even first_odd.ensures.odd in
    let late_evens : Alternate 1 a third last_even.result = (last_even.ensures.even, last_even.ensures.odd) in
    let late_odds : Alternate 1 b d last_odd.result = (last_odd.ensures.even, last_odd.ensures.odd) in
    by_four
    (λ r. place (c.first_lanes.result ∷ c.last_lanes.result ∷ c.first_lanes-2.result ∷ c.last_lanes-2.result ∷ []) r n
    ≡ place (a ∷ b ∷ third ∷ d ∷ []) (n % 4) (16 * (n / 16) + (4 * r + n % 16 / 4)))
    (alternate_four 0 0 a b third d first_even.result first_odd.result c.first_lanes.result (omega arith) (omega arith) evens odds
    (from_first first_even.result first_odd.result c.first_lanes.result c.first_lanes.ensures.even c.first_lanes.ensures.odd) n below)
    (alternate_four 0 1 a b third d first_even.result first_odd.result c.last_lanes.result (omega arith) (omega arith) evens odds
    (c.last_lanes.ensures.even, c.last_lanes.ensures.odd) n below)
    (alternate_four 1 0 a b third d last_even.result last_odd.result c.first_lanes-2.result (omega arith) (omega arith) late_evens late_odds
    (from_first last_even.result last_odd.result c.first_lanes-2.result c.first_lanes-2.ensures.even c.first_lanes-2.ensures.odd) n below)
    (alternate_four 1 1 a b third d last_even.result last_odd.result c.last_lanes-2.result (omega arith) (omega arith) late_evens late_odds
    (c.last_lanes-2.ensures.even, c.last_lanes-2.ensures.odd) n below)
    q few
