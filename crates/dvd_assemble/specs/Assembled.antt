-- What captured frames say of the blocks of a data zone.
use Rattle.std.specs.Prelude.{ℕ, ◌/◌, ◌%◌, ◌==◌, if◌then◌else◌, List, length, map, replicate, slice_index_or, slice_set}
use Rattle.std.specs.List.{range_with_len}
use Rattle.std.specs.Option.{option_map_or}
use Rattle.coding.specs.Product.{line}
use Rattle.coding.specs.Recording.{record_at}
use Rattle.dvd_layout.specs.Plan.{plan_of}
use Rattle.dvd_layout.specs.declared.layout.Layout.{Layout}
use Rattle.dvd_layout.specs.declared.layout.Zones.TheVariants.{DataOnly}
use Rattle.dvd_capture.specs.Answers.{marks_line}
use Rattle.dvd_merge.specs.Join.{Table, join_rows, joined, known_row, seen_row, unseen}
use Rattle.dvd_merge.specs.declared.place.Place.{Place}
use Rattle.dvd_merge.specs.declared.place.Place.TheVariants.{Unseen}
use Rattle.dvd_assemble.specs.Frames.{Frame}
use Rattle.dvd_assemble.specs.Home.{home}

-- Ours: what row q of a captured frame says of its places
abbrev pub frame_row : Frame → ℕ → List Place
frame_row frame q = seen_row (line frame.rows q) (marks_line frame.marks q)

-- ECMA-267, 19: what a captured frame says of a block whose recording frame f it is. Of the block's 208 recorded rows
-- those from 13f on are the frame's: its rows 12f to 12f + 11, and after them row 192 + f.
unfoldable pub frame_table : ℕ → Frame → Table
frame_table f frame =
    map (λ i. if record_at i / 13 == f then frame_row frame (record_at i % 13) else replicate 182 Unseen) (range_with_len 0 208)

-- Ours: what a captured frame says of data block k: nothing, if it has its home elsewhere or none
abbrev pub table_for : ℕ → Frame → ℕ → Table
table_for k frame n = if n / 16 == k then frame_table (n % 16) frame else unseen

-- Ours: the same, by the home of the frame
unfoldable pub table_of_frame : Layout → ℕ → Frame → Table
table_of_frame layout k frame = option_map_or (table_for k frame) (home layout frame) unseen

-- Ours: for each data block the join of what all frames say of it
unfoldable pub assembled : Layout → List Frame → List Table
assembled layout frames = map (λ k. joined (map (table_of_frame layout k) frames)) (range_with_len 0 (length (plan_of layout DataOnly)))

-- Ours: a block with a captured frame joined to it as its recording frame f: thirteen rows, place by place. The others
-- stay.
unfoldable pub with_frame : ℕ → Frame → Table → Table
with_frame f frame table =
    map (λ i. if record_at i / 13 == f then join_rows (known_row table i) (frame_row frame (record_at i % 13)) else known_row table i) (range_with_len 0 208)

-- Ours: the blocks with one frame more, joined to its home and to no other block
unfoldable pub settled : Layout → List Table → Frame → List Table
settled layout tables frame =
    option_map_or (λ n. slice_set tables (n / 16) (with_frame (n % 16) frame (slice_index_or tables (n / 16) unseen))) (home layout frame) tables
