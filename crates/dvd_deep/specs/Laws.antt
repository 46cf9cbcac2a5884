-- The laws of iterated reading.
use Rattle.std.specs.Prelude.{◌≡◌, ℕ, ◌<◌, Bool, List, Some, length}
use Rattle.coding.specs.Filling.{AgreeUnmarked}
use Rattle.coding.specs.Product.{IsProduct, line}
use Rattle.dvd_capture.specs.Answers.{marks_line}
use Rattle.coding.specs.TwoPass.{IsTwoPass}
use Rattle.dvd_decoding.specs.Made.{IsReceived}
use Rattle.dvd_deep.specs.Rounds.{deep_block, deep_round}

-- where two passes determine a block, round 1 gives it back
abbrev pub TwoPassIsRoundOne : Type 0
TwoPassIsRoundOne =
    (received : List (List ℕ)) (marks : List (List Bool)) (block : List (List ℕ)) → length received ≡ 208 → length marks ≡ 208
    → IsTwoPass received marks block → (deep_round received marks ≡ Some 1) × (deep_block received marks ≡ Some block)

-- whatever block is given back is a product codeword
abbrev pub WhatIsFoundIsProduct : Type 0
WhatIsFoundIsProduct =
    (received : List (List ℕ)) (marks : List (List Bool)) (block : List (List ℕ)) → deep_block received marks ≡ Some block → IsProduct block

-- Where each received byte that isn't marked is that of a product codeword, no other block is given back, however many
-- places are marked.
abbrev pub TrueBytesGiveTheBlock : Type 0
TrueBytesGiveTheBlock =
    (received : List (List ℕ)) (marks : List (List Bool)) (true_block block : List (List ℕ)) → IsReceived received marks → IsProduct true_block
    → ((i : ℕ) → i < 208 → AgreeUnmarked (marks_line marks i) (line received i) (line true_block i))
    → deep_block received marks ≡ Some block → block ≡ true_block
