-- The proof of `get_frame` in src/frames.rt.
use Rattle.std.proofs.Common.{◌≡◌, ◌∙◌, ◌+◌, ◌*◌, ◌<◌, List, ℕ, slice_index, length, sym, ap, arith}
use Rattle.std.proofs.lemmas.List.{length-map}
use Rattle.coding.specs.Product.{line}
use Rattle.dvd_capture.specs.Parts.{received_rows}
use Rattle.coding.specs.TwoPass.{from_columns}
use Rattle.dvd_capture.specs.declared.parts.ColumnAnswer.{ColumnAnswer}
use Rattle.dvd_capture.proofs.Columns.{from_columns-line, length-from_columns}
use Rattle.dvd_capture.proofs.WorkParts.{rows-height}
use Rattle.dvd_decoding.specs.Frames.{frame_of}
use Rattle.dvd_read.specs.Inner.Found.{words_of_columns}
use Rattle.dvd_read.proofs.Differences.{rows-same}
use Rattle.dvd_read.specs.Parts.{answer_bytes}
use Rattle.dvd_read.proofs.FrameFaults.{frames-same}
use Rattle.dvd_read.proofs.Holding.{held-line}
use Rattle.dvd_read.proofs.frames.get_frame.Goals as goal

pub returns-in-Received : goal.returns-in-Received
returns-in-Received c =
    let rows : List (List ℕ) = received_rows c.args.received.now in
    let words : List (List ℕ) = words_of_columns c.args.columns.now in
    let height : length rows ≡ 208 = rows-height c.args.received.now in
    c.copy_received.ensures.frame ∙ ap (λ (l : List (List ℕ)). frame_of l c.args.f) c.rows.ensures.rows
    ∙ frames-same rows (from_columns words) c.args.f
    (λ q below.
    let i : ℕ = 12 * c.args.f + q in
    let width : length (line (from_columns words) i) ≡ 182 =
    ap length (from_columns-line words i (omega (arith, c.requires.frame))) ∙ length-map words (λ word. slice_index word i)
    ∙ length-map c.args.columns.now (λ (column : ColumnAnswer). column.bytes) ∙ c.requires.columns in
    rows-same rows (from_columns words) i (c.requires.received c.in-Received.is) (omega (arith, height, c.requires.frame))
    (omega (arith, length-from_columns words, c.requires.frame)) (sym (ap (λ (l : List (List ℕ)). length (line l i)) c.rows.ensures.rows) ∙ c.copy_received.ensures.widths q below ∙ sym width))

pub returns-in-Answers : goal.returns-in-Answers
returns-in-Answers c =
    let words : List (List ℕ) = words_of_columns c.args.columns.now in
    c.copy_held.ensures.frame
    ∙ frames-same (answer_bytes c.args.answers.now) (from_columns words) c.args.f
    (λ q below.
    let i : ℕ = 12 * c.args.f + q in
    let inside : i < 208 = omega (arith, c.requires.frame) in
    held-line c.args.answers.now (from_columns words) i c.requires.rows inside (c.copy_held.ensures.widths q below)
    (ap length (from_columns-line words i inside) ∙ length-map words (λ word. slice_index word i)
    ∙ length-map c.args.columns.now (λ (column : ColumnAnswer). column.bytes) ∙ c.requires.columns)
    (c.requires.answers c.in-Answers.is))
