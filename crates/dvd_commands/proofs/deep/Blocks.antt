-- One block that `deep` reads.
use Rattle.std.proofs.Common.{◌≡◌, ◌∙◌, inl, ℕ, ◌+◌, ◌-◌, ◌*◌, ◌≤◌, arith, drop, map, Bool, true, List, [], ◌∷◌, ◌++◌, length, take, Some, None, is_some, refl, ap, sym}
use Rattle.std.specs.declared.option.Option.{Option}
use Rattle.std.specs.List.{flat_map, range_with_len}
use Rattle.std.proofs.lemmas.List.{take_all, take_at}
use Rattle.std.proofs.lemmas.List.FromFn.{length-map-range_with_len}
use Rattle.coding.specs.Product.{IsProduct}
use Rattle.coding.specs.TwoPass.{answers_of}
use Rattle.dvd_capture.proofs.Columns.{length-answers_of}
use Rattle.dvd_deep.specs.Rounds.{deep_block, deep_round}
use Rattle.dvd_deep.proofs.Products.{found_is_product}
use Rattle.dvd_deep.proofs.Readings.{deep-refused, read-deep}
use Rattle.dvd_layout.specs.Place.{image_sectors}
use Rattle.dvd_layout.specs.declared.entry.BlockPlan.{BlockPlan}
use Rattle.dvd_layout.specs.declared.layout.Layout.{Layout}
use Rattle.dvd_loop.specs.Machine.{Step}
use Rattle.dvd_loop.specs.Machine.Step.{Report, Write}
use Rattle.dvd_loop.specs.declared.ends.UnitKind.{UnitKind}
use Rattle.dvd_loop.specs.declared.ends.UnitKind.TheVariants.{Good}
use Rattle.dvd_decoding.specs.Causes.{two_pass_cause}
use Rattle.dvd_decoding.specs.Frames.{frames_cause, main_at, main_data}
use Rattle.dvd_decoding.specs.Reading.{IsReadAs, block_cause}
use Rattle.dvd_decoding.specs.declared.cause.Cause.{Cause}
use Rattle.dvd_read.proofs.Outcomes.{agrees-no_cause}
use Rattle.dvd_report.specs.Lines.{round_line}
use Rattle.dvd_commands.specs.Deep.{IsImageRead, round_report}
use Rattle.dvd_commands.specs.Inner.Performing.{IsFoundBy, ReportsAndWrites, sectors_out}
use Rattle.dvd_commands.proofs.SectorsWritten.{sectors_prefix}
use Rattle.dvd_commands.proofs.RecoveredWidths.{length-sectors_out}
use Rattle.dvd_commands.proofs.ImageInBlocks.{few-sectors}

-- no line of a round is reported where the two passes have no cause
pub told_none : (k : ℕ) (entry : BlockPlan) (round : ℕ) (cause : Option Cause) → cause ≡ None → round_report cause k entry round ≡ []
told_none k entry round cause is = ap (λ c. round_report c k entry round) is

-- and it is reported where they have one
pub told_some : (k : ℕ) (entry : BlockPlan) (round : ℕ) (cause : Option Cause) → is_some cause ≡ true → round_report cause k entry round ≡ Report (round_line k entry round) ∷ []
told_some k entry round (Some cause) is = refl
told_some k entry round None is = cc

module _ (layout : Layout) (k : ℕ) (entry : BlockPlan) (rows : List (List ℕ)) (marks : List (List Bool)) where
  -- what two passes read is given back by round 1, without a line
  pub read_given : (sectors : List (List ℕ)) → length rows ≡ 208 → length marks ≡ 208 → IsReadAs rows marks entry sectors
      → IsImageRead layout k entry rows marks (Write (sectors_out (image_sectors layout entry.content) sectors) ∷ []) Good
  read_given sectors size marks_size read =
      let none : two_pass_cause (answers_of rows marks) ≡ None =
      agrees-no_cause (answers_of rows marks) read.block (length-answers_of rows marks 208 size marks_size) read.agrees in
      inl (record {
        round = 1;
        sectors = sectors;
        read = read-deep rows marks entry sectors size marks_size read;
        writes = sym (ap (λ (l : List Step). l ++ Write (sectors_out (image_sectors layout entry.content) sectors) ∷ []) (told_none k entry 1 (two_pass_cause (answers_of rows marks)) none));
        good = refl;
      })

  -- what a round gives back of a block that they refuse, with its line
  pub found_given : (bytes sectors : List ℕ) (round : ℕ) → IsFoundBy layout entry rows marks bytes round
      → sectors ≡ take (2048 * image_sectors layout entry.content) bytes → (steps : List Step) (kind : UnitKind)
      → ReportsAndWrites (round_line k entry round) sectors Good steps kind → IsImageRead layout k entry rows marks steps kind
  found_given bytes sectors round found is steps kind done = inl (record {
    round = round;
    sectors = found.sectors;
    read = found.read;
    writes = done.0
        ∙ ap (λ (l : List ℕ). Report (round_line k entry round) ∷ Write l ∷ []) (is ∙ found.first)
        ∙ sym (ap (λ (l : List Step). l ++ Write (sectors_out (image_sectors layout entry.content) found.sectors) ∷ []) (told_some k entry round (two_pass_cause (answers_of rows marks)) found.refused));
    good = done.1;
  })

-- FOUND BY ROUNDS. The first sectors of all sixteen.
first_sectors : (block : List (List ℕ)) (entry : BlockPlan) (count : ℕ) (bytes : List ℕ) → IsProduct block → count ≤ 16
    → bytes ≡ flat_map (λ sector. sector) (main_data block entry) → take (2048 * count) bytes ≡ sectors_out count (main_data block entry)
unfolding main_data
first_sectors block entry count bytes product few is =
    let sectors : List (List ℕ) = map (main_at block entry) (range_with_len 0 16) in
    let size : length sectors ≡ 16 = length-map-range_with_len (main_at block entry) 0 16 in
    let rest : List ℕ = flat_map (λ (sector : List ℕ). sector) (take (16 - count) (drop count sectors)) in
    let all : count + (16 - count) ≡ 16 = omega arith in
    ap (take (2048 * count)) (is ∙ ap (flat_map (λ (sector : List ℕ). sector)) (sym (take_all 16 sectors (omega (arith, size))))
    ∙ sym (ap (λ n. sectors_out n sectors) all) ∙ sym (sectors_prefix sectors count (16 - count)))
    ∙ take_at (sectors_out count sectors) rest (2048 * count) (length-sectors_out block entry count product few)

-- a refused block that a round gives back, and whose frames are right, is found by that round
pub found_by : (layout : Layout) (entry : BlockPlan) (rows : List (List ℕ)) (marks : List (List Bool)) (block : List (List ℕ)) (bytes : List ℕ) (round : ℕ) (cause : Cause)
    → length rows ≡ 208 → length marks ≡ 208 → block_cause rows marks entry ≡ Some cause → deep_round rows marks ≡ Some round → deep_block rows marks ≡ Some block
    → frames_cause block entry ≡ None → bytes ≡ flat_map (λ sector. sector) (main_data block entry) → IsFoundBy layout entry rows marks bytes round
found_by layout entry rows marks block bytes round cause size marks_size first is gives right main = record {
  sectors = main_data block entry;
  read = record { block = block; first = is; gives = gives; right = right; main = refl };
  refused = deep-refused rows marks entry cause block size marks_size first gives right;
  first = first_sectors block entry (image_sectors layout entry.content) bytes (found_is_product rows marks block gives) (few-sectors layout entry.content) main;
}
