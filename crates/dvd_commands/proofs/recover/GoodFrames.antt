-- A run of recovery keeps the good frames of the blocks that two passes refuse.
use Rattle.std.proofs.Common.{◌≡◌, ◌∙◌, ℕ, ◌+◌, ◌*◌, ◌<◌, ◌≤◌, List, ◌++◌, length, length-append, take, drop, ap, sym, subst, arith}
use Rattle.std.proofs.Math.Seq.{drop-append_seam}
use Rattle.std.proofs.lemmas.List.{drop-drop, take-append-drop}
use Rattle.dvd_capture.specs.Captured.{captured_marks, captured_rows}
use Rattle.dvd_capture.specs.declared.form.Form.{Form}
use Rattle.dvd_capture.proofs.Fetching.{part-append}
use Rattle.dvd_layout.specs.Content.{image_from}
use Rattle.dvd_layout.specs.Place.{image_sectors}
use Rattle.dvd_layout.specs.declared.entry.BlockPlan.{BlockPlan}
use Rattle.dvd_layout.specs.declared.layout.Layout.{Layout}
use Rattle.dvd_layout.specs.declared.layout.Zones.{Zones}
use Rattle.dvd_loop.specs.Laws.{IsFaultless}
use Rattle.dvd_loop.specs.Machine.{IsOutcome, Outcome}
use Rattle.dvd_loop.specs.UnitCommand.{written}
use Rattle.dvd_commands.specs.Bound.{GivesGoodSectors, IsBeyond, KeepsGoodFrames, sector_part}
use Rattle.dvd_commands.specs.Captured.{block_bytes}
use Rattle.dvd_commands.specs.Commands.{GoesOver, meaning}
use Rattle.dvd_commands.specs.Meaning.{GoesBy}
use Rattle.dvd_commands.specs.Master.{image_bytes, image_part}
use Rattle.dvd_commands.specs.Recover.{HasGoodRows, IsRecovered, recover_units}
use Rattle.dvd_words.specs.Settings.{IsLayoutOf}
use Rattle.dvd_words.specs.declared.table.Command.TheVariants.{Recover}
use Rattle.dvd_words.specs.declared.settings.Settings.{Settings}
use Rattle.dvd_commands.proofs.AnyEnd.{at_any_end, part-begun}
use Rattle.dvd_commands.proofs.master.Blocks.{size_is}
use Rattle.dvd_commands.proofs.recover.Done.{recover_total}
use Rattle.dvd_commands.proofs.recover.Rescues.{given_good}
use Rattle.dvd_commands.proofs.BlockUnits.{has_unit, length-part}
use Rattle.dvd_commands.proofs.CapturedBlocks.{block-whole}
use Rattle.dvd_commands.proofs.RecoveredWidths.{recovered-wide}

-- a part of the front of a list
part-prefix : (xs : List ℕ) (m a n : ℕ) → a + n ≤ length (take m xs) → take n (drop a (take m xs)) ≡ take n (drop a xs)
part-prefix xs m a n inside = sym (part-append (take m xs) (drop m xs) a n inside) ∙ ap (λ l. take n (drop a l)) (take-append-drop m xs)

-- a part of the second of two lists, in what begins with both
part-further : (xs ys left out : List ℕ) (a b n : ℕ) → length xs ≡ a → b + n ≤ length ys → out ≡ (xs ++ ys) ++ left
    → take n (drop (a + b) out) ≡ take n (drop b ys)
part-further xs ys left out a b n size inside is =
    ap (λ l. take n (drop (a + b) l)) is
    ∙ part-append (xs ++ ys) left (a + b) n (omega (arith, length-append xs ys))
    ∙ ap (take n) (sym (drop-drop b a (xs ++ ys)) ∙ ap (drop b) (ap (λ k. drop k (xs ++ ys)) (sym size) ∙ drop-append_seam xs ys))

-- in a run whose loop ended without a fault the sector of a good frame is at its place
at_place : (layout : Layout) (zones : Zones) (form : Form) (bytes : List ℕ) (a : Outcome) → IsOutcome (recover_units layout zones form) bytes a
    → IsFaultless a.end
    → (cpr image : List ℕ) (k f : ℕ) (entry : BlockPlan) (b : IsBeyond layout zones form bytes cpr image k entry) → f < image_sectors layout entry.content
    → HasGoodRows b.mastered.block (captured_rows form (block_bytes form bytes k)) (captured_marks form (block_bytes form bytes k)) f
    → take 2048 (drop (2048 * (image_from entry.content + f)) a.out) ≡ take 2048 (drop (2048 * (image_from entry.content + f)) image)
at_place layout zones form bytes a runs none cpr image k f entry b below good =
    let m = b.mastered in
    let from = image_from entry.content in
    let own = block_bytes form bytes k in
    let part = image_part layout entry image in
    let size = length-part layout entry.content image m.image_size in
    let t = has_unit layout zones form (IsRecovered layout zones form) (recovered-wide layout zones form) bytes a runs none k entry m.is_there m.is_image m.whole in
    let wide : length (written t.steps) ≡ image_bytes layout entry = (recovered-wide layout zones form k own t.steps t.kind t.does).0 ∙ size_is layout zones k entry m.is_there in
    let at : 2048 * (from + f) ≡ 2048 * from + 2048 * f = omega arith in
    ap (λ n. take 2048 (drop n a.out)) at
    ∙ part-further t.before (written t.steps) t.out.0 a.out (2048 * from) (2048 * f) 2048 t.size (omega (arith, wide)) t.out.1
    ∙ given_good layout zones form cpr k f entry part own m.block b.cause t.steps t.kind m.is_there m.is_image m.cpr_size size m.is_block
    (block-whole form bytes (k + 1) m.whole k (omega arith)) b.refused below good t.does
    ∙ part-prefix (drop (2048 * from) image) (image_bytes layout entry) (2048 * f) 2048 (omega (arith, size))
    ∙ ap (take 2048) (drop-drop (2048 * f) (2048 * from) image)
    ∙ ap (λ n. take 2048 (drop n image)) (sym at)

-- so the units of `recover` keep the good frames
units_keep : (settings : Settings) (layout : Layout) → IsLayoutOf settings layout → (bytes : List ℕ) (loop : Outcome)
    → IsOutcome (recover_units layout settings.zones settings.form) bytes loop → KeepsGoodFrames settings bytes loop
units_keep settings layout is_layout bytes loop runs =
    let any = at_any_end (GivesGoodSectors layout settings) (recover_units layout settings.zones settings.form) (recover_total layout settings.zones settings.form)
    (λ own a goes none cpr image k f entry g. at_place layout settings.zones settings.form own a goes none cpr image k f entry g.beyond g.is_image g.good)
    bytes loop runs in
    record {
      layout = layout;
      is_layout = is_layout;
      given = any.given;
      begun = λ cpr image k f entry g.
          part-begun any 2048 (2048 * (image_from entry.content + f)) (sector_part entry f image) (any.gives cpr image k f entry g);
    }

-- and a loop of `recover` does
pub loops_keep_good : (settings : Settings) (bytes : List ℕ) (loop : Outcome) → settings.command ≡ Recover → GoesOver settings bytes loop
    → KeepsGoodFrames settings bytes loop
loops_keep_good settings bytes loop is goes =
    let (layout, is_layout, runs) = subst (λ command. GoesBy (meaning command) settings bytes loop) is goes in
    units_keep settings layout is_layout bytes loop runs
