-- Of each sector one thing is made, and something is.
use Rattle.std.proofs.Common.{◌≡◌, ℕ, List, ◌∷◌, [], refl, ap, sym, ◌∙◌, ◌<◌}
use Rattle.dvd_loop.specs.Machine.Step.{Write}
use Rattle.dvd_commands.specs.Making.{IsMade}
use Rattle.cd_sector.specs.Sector.{IsSector}
use Rattle.cd_sector.proofs.SomeSector.{some_sector}
use Rattle.dvd_loop.specs.declared.ends.UnitKind.TheVariants.{Good}
use Rattle.dvd_commands.proofs.FrameBytes.{HasBytes}
use Rattle.dvd_commands.proofs.OneThing.{MayOne}
use Rattle.dvd_commands.proofs.SomeThing.{MaySome}

-- Where one list of bytes is made of a sector, one thing is done for it.
pub made_is_one : (Holds : List ℕ → Type 0) → ((a b : List ℕ) → Holds a → Holds b → a ≡ b) → MayOne (IsMade Holds)
made_is_one Holds one steps others kind other p q =
    (p.writes ∙ ap (λ l. Write l ∷ []) (one p.made q.made p.holds q.holds) ∙ sym q.writes, p.good ∙ sym q.good)

-- Every address below the last has a sector.
pub made_some : (address : ℕ) (user : List ℕ) → address < 450000 → HasBytes 2048 user → MaySome (IsMade (IsSector address user))
made_some address user below are =
    let some = some_sector address user below are.size are.bytes in
    (Write some.0 ∷ [], Good, record { made = some.0; holds = some.1; writes = refl; good = refl })
