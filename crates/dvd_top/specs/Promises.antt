-- The promise in plain words, for a reader of this page alone: what `master` and `recover` give where no call of a
-- stream failed. In each there may be no memory instead, before the first byte.
use Rattle.std.specs.Prelude.{◌≡◌, ◌⊎◌, ℕ, ◌*◌, ◌++◌, List, [], length, take, drop, codes, count_by, Option, None, Some, slice_get}
use Rattle.std.specs.List.{flat_map, range_with_len}
use Rattle.std.specs.Option.{is_some}
use Rattle.coding.specs.Product.{IsBlockOf}
use Rattle.coding.specs.Recording.{recording}
use Rattle.dvd_capture.specs.Captured.{captured_marks, captured_rows, record_size}
use Rattle.dvd_capture.specs.declared.form.Form.{Form}
use Rattle.dvd_capture.specs.declared.form.Form.TheVariants.{Listed, Plain}
use Rattle.dvd_decoding.specs.Reading.{block_cause}
use Rattle.dvd_decoding.specs.Salvage.{block_out, saved_in}
use Rattle.dvd_decoding.specs.declared.cause.Cause.{Cause}
use Rattle.dvd_layout.specs.Place.{image_sectors, total_sectors}
use Rattle.dvd_layout.specs.Plan.{plan_of}
use Rattle.dvd_layout.specs.declared.entry.BlockPlan.{BlockPlan}
use Rattle.dvd_layout.specs.declared.entry.Content.{Content}
use Rattle.dvd_layout.specs.declared.entry.Content.TheVariants.{Control, Image, Reference, Zero}
use Rattle.dvd_layout.specs.declared.layout.Layout.{Layout}
use Rattle.dvd_layout.specs.declared.layout.Zones.{Zones}
use Rattle.dvd_ports.specs.Causes.{Rose}
use Rattle.dvd_loop.specs.Machine.{end_by}
use Rattle.dvd_loop.specs.Streams.{HaveMoved, Streams}
use Rattle.dvd_report.specs.Lines.{damage_line}
use Rattle.dvd_top.specs.Lines.{closing_line}
use Rattle.dvd_top.specs.Statuses.{status_of}
use Rattle.dvd_commands.specs.Master.{filled_block, frames_of, image_part}
use Rattle.dvd_top.specs.declared.status.Status.{Status}
use Rattle.dvd_top.specs.declared.status.Status.TheVariants as status
use Rattle.dvd_words.specs.Settings.{IsLayoutOf}
use Rattle.dvd_words.specs.declared.table.Command.TheVariants.{Master, Recover}
use Rattle.dvd_words.specs.declared.settings.Settings.{Settings}

-- no call of a stream failed: no count of failed calls rose
pub record NoneFailed (old new : Streams) : Type 0 where
  pub source : Rose old.source.faults new.source.faults → ⊥
  pub output : Rose old.output.faults new.output.faults → ⊥
  pub report : Rose old.report.faults new.report.faults → ⊥

-- The input was these bytes: the source is known to have them; or they are all that the reads of this run returned, as
-- one knows of a file or a pipe.
abbrev pub WasInput : Streams → Streams → List ℕ → Type 0
WasInput old new bytes = (old.source.bytes.left ≡ Some bytes) ⊎ (new.source.bytes.moved ≡ old.source.bytes.moved ++ bytes)

-- The stream of an image: for each block of the plan, in order, the recording of the one ECC block of its frames.
pub record IsStreamOf (layout : Layout) (zones : Zones) (cpr image stream : List ℕ) : Type 0 where
  pub size : length stream ≡ 37_856 * length (plan_of layout zones)
  pub each : (k : ℕ) (entry : BlockPlan) → slice_get (plan_of layout zones) k ≡ Some entry
      → (block : List (List ℕ))
      × IsBlockOf (frames_of layout entry cpr (filled_block (image_part layout entry image))) block
      × (take 37_856 (drop (37_856 * k) stream) ≡ recording block)

-- `master` of exactly the bytes of an image reads them, writes their stream, reports `done` alone, and ends as Done.
abbrev pub Masters : Settings → Streams → Streams → Status → Type 0
Masters settings old new result =
    (layout : Layout) (image : List ℕ) → settings.command ≡ Master → IsLayoutOf settings layout
    → WasInput old new image → length image ≡ 2048 * total_sectors layout → NoneFailed old new
    → (result ≡ status.NoMemory)
    ⊎ ((result ≡ status.Done) × ((stream : List ℕ) × IsStreamOf layout settings.zones settings.cpr image stream
    × HaveMoved old new image stream (codes "done\n")))

-- The image sectors that are recovered from a plain or a marked capture. Where two passes determine block k and its
-- frames are right, they are those of that block. Else they are those of each frame that is right by itself, and zeros
-- for the others.
pub record IsImageOf (layout : Layout) (zones : Zones) (form : Form) (capture image : List ℕ) : Type 0 where
  pub size : length image ≡ 2048 * total_sectors layout
  pub each : (k : ℕ) (entry : BlockPlan) (own : List ℕ) → slice_get (plan_of layout zones) k ≡ Some entry
      → own ≡ take (208 * record_size form) (drop (208 * record_size form * k) capture)
      → image_part layout entry image
      ≡ flat_map (λ sector. sector)
      (take (image_sectors layout entry.content) (block_out (captured_rows form own) (captured_marks form own) entry))

-- why a block of this content is refused: not at all if it holds no image
abbrev pub refusal_cause : Content → Option Cause → Option Cause
refusal_cause (Image sector) cause = cause
refusal_cause Zero cause = None
refusal_cause Reference cause = None
refusal_cause Control cause = None

-- the line of block k where it is refused for this cause
abbrev pub refusal_text : ℕ → BlockPlan → ℕ → Option Cause → List ℕ
refusal_text k entry saved None = []
refusal_text k entry saved (Some cause) = damage_line k entry cause saved

-- What is reported of a plain or a marked capture: in order, for each block that is refused, its line with the first
-- cause and how many of its frames are right by themselves; and so many blocks are refused. A block is refused where two
-- passes determine none, or a frame of the one that they determine isn't right at its place.
pub record IsReportOf (layout : Layout) (zones : Zones) (form : Form) (capture lines : List ℕ) (refused : ℕ) : Type 0 where
  pub cause : ℕ → Option Cause
  pub text : ℕ → List ℕ
  pub each : (k : ℕ) (entry : BlockPlan) (own : List ℕ) → slice_get (plan_of layout zones) k ≡ Some entry
      → own ≡ take (208 * record_size form) (drop (208 * record_size form * k) capture)
      → (cause k ≡ refusal_cause entry.content (block_cause (captured_rows form own) (captured_marks form own) entry))
      × (text k ≡ refusal_text k entry (saved_in (captured_rows form own) (captured_marks form own) entry) (cause k))
  pub lines_are : lines ≡ flat_map text (range_with_len 0 (length (plan_of layout zones)))
  pub count : refused ≡ count_by (λ k. is_some (cause k)) (range_with_len 0 (length (plan_of layout zones)))

-- `recover` of any bytes of the right length reads them, and writes the image sectors of this capture. It reports the
-- lines of the refused blocks and the closing line, and ends as Done if none is refused, else as Damaged with their
-- number.
abbrev pub Recovers : Settings → Streams → Streams → Status → Type 0
Recovers settings old new result =
    (layout : Layout) (capture : List ℕ) → settings.command ≡ Recover → (settings.form ≡ Listed → ⊥)
    → IsLayoutOf settings layout → WasInput old new capture
    → length capture ≡ length (plan_of layout settings.zones) * (208 * record_size settings.form)
    → NoneFailed old new → (result ≡ status.NoMemory)
    ⊎ ((image lines : List ℕ) × (refused : ℕ) × IsImageOf layout settings.zones settings.form capture image
    × IsReportOf layout settings.zones settings.form capture lines refused
    × (result ≡ status_of (end_by refused))
    × HaveMoved old new capture image (lines ++ closing_line Recover (end_by refused)))

-- `recover` of the stream of an image gives the image back, reports `done` alone, and ends as Done.
abbrev pub GivesImage : Settings → Streams → Streams → Status → Type 0
GivesImage settings old new result =
    (layout : Layout) (cpr image stream : List ℕ) → settings.command ≡ Recover → settings.form ≡ Plain
    → IsLayoutOf settings layout → length cpr ≡ 6 → length image ≡ 2048 * total_sectors layout
    → IsStreamOf layout settings.zones cpr image stream → WasInput old new stream → NoneFailed old new
    → (result ≡ status.NoMemory) ⊎ ((result ≡ status.Done) × HaveMoved old new stream image (codes "done\n"))
