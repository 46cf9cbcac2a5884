-- The laws of assembled frames.
use Rattle.std.specs.Prelude.{◌≡◌, ◌↔◌, ℕ, ◌+◌, ◌*◌, ◌<◌, List, [], ◌∷◌, ◌++◌, All, Some, length, slice_index_or}
use Rattle.std.specs.List.{Contains}
use Rattle.dvd_layout.specs.Plan.{plan_of}
use Rattle.dvd_layout.specs.declared.layout.Layout.{Layout}
use Rattle.dvd_layout.specs.declared.layout.Zones.TheVariants.{DataOnly}
use Rattle.dvd_merge.specs.Agreeing.{IsTableOf}
use Rattle.dvd_merge.specs.Join.{unseen}
use Rattle.dvd_assemble.specs.Assembled.{assembled, settled}
use Rattle.dvd_assemble.specs.Frames.{Frame}
use Rattle.dvd_assemble.specs.Home.{home}
use Rattle.dvd_assemble.specs.Mastered.{AreNamed, IsCaptureOf, IsCaptured, NamesItsFrames}

-- the same frames in another order, or some of them more than once, make the same blocks
abbrev pub FrameOrderDoesNotCount : Type 0
FrameOrderDoesNotCount =
    (layout : Layout) (a b : List Frame) → ((frame : Frame) → Contains a frame ↔ Contains b frame) → assembled layout a ≡ assembled layout b

-- frames that are joined to their homes one after the other make these blocks
abbrev pub FramesAreSettledOneByOne : Type 0
FramesAreSettledOneByOne =
    (layout : Layout) (frames : List Frame) (frame : Frame) → settled layout (assembled layout frames) frame ≡ assembled layout (frames ++ frame ∷ [])

-- A frame that was captured of a mastered one has its home there.
abbrev pub CapturedFramesComeHome : Type 0
CapturedFramesComeHome =
    (layout : Layout) (k f : ℕ) (block : List (List ℕ)) (frame : Frame) → k < length (plan_of layout DataOnly) → f < 16
    → NamesItsFrames layout k block → IsCaptureOf f block frame → home layout frame ≡ Some (16 * k + f)

-- No place of such frames is in conflict: each that is seen has the byte of its block.
abbrev pub CapturedFramesAgree : Type 0
CapturedFramesAgree =
    (layout : Layout) (blocks : ℕ → List (List ℕ)) (frames : List Frame) → AreNamed layout blocks → All (IsCaptured layout blocks) frames
    → (k : ℕ) → k < length (plan_of layout DataOnly) → IsTableOf (blocks k) (slice_index_or (assembled layout frames) k unseen)
