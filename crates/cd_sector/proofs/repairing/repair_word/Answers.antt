-- The proof of `repair_word` in src/repairing.rt.
use Rattle.std.proofs.Common.{◌≡◌, ℕ, List, sym, ap, ◌∙◌, arith}
use Rattle.std.specs.Option.{is_none}
use Rattle.cd_sector.specs.Repair.{with_word}
use Rattle.cd_sector.specs.Words.{sector_word}
use Rattle.cd_sector.proofs.Places.{whole_word}
use Rattle.cd_sector.proofs.NearWords.{near_found, near_none}
use Rattle.cd_sector.proofs.repairing.repair_word.Goals as goal

pub returns-in_default-clause-word : goal.returns-in_default-clause-word
unfolding with_word
returns-in_default-clause-word g c =
    let sector : List ℕ = c.args.sector.now in
    let bytes : List ℕ = c.read_word.new.bytes in
    let is : bytes ≡ sector_word sector c.args.word = whole_word sector c.args.word bytes (omega arith) c.read_word.ensures in
    ap (with_word sector c.args.word)
    (sym (near_none g.row.N c.args.word sector bytes c.args.marks.now c.requires.size is (omega arith) c.in_default.ensures.beyond))

pub returns-in_default-clause-lost : goal.returns-in_default-clause-lost
returns-in_default-clause-lost g c =
    let sector : List ℕ = c.args.sector.now in
    let bytes : List ℕ = c.read_word.new.bytes in
    let is : bytes ≡ sector_word sector c.args.word = whole_word sector c.args.word bytes (omega arith) c.read_word.ensures in
    ap is_none (sym (near_none g.row.N c.args.word sector bytes c.args.marks.now c.requires.size is (omega arith) c.in_default.ensures.beyond))

pub returns-clause-word : goal.returns-clause-word
unfolding with_word
returns-clause-word g c =
    let sector : List ℕ = c.args.sector.now in
    let bytes : List ℕ = c.read_word.new.bytes in
    let is : bytes ≡ sector_word sector c.args.word = whole_word sector c.args.word bytes (omega arith) c.read_word.ensures in
    c.write_word.ensures.word
    ∙ ap (with_word sector c.args.word) (sym (near_found g.row.N c.args.word sector bytes c.decode.new.word c.args.marks.now c.requires.size is c.in-Ok.ensures.near))

pub returns-clause-lost : goal.returns-clause-lost
returns-clause-lost g c =
    let sector : List ℕ = c.args.sector.now in
    let bytes : List ℕ = c.read_word.new.bytes in
    let is : bytes ≡ sector_word sector c.args.word = whole_word sector c.args.word bytes (omega arith) c.read_word.ensures in
    ap is_none (sym (near_found g.row.N c.args.word sector bytes c.decode.new.word c.args.marks.now c.requires.size is c.in-Ok.ensures.near))
