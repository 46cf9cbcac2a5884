-- The blocks that frames make, one frame after the other.
use Rattle.std.proofs.Common.{◌≡◌, inl, inr, ◌∙◌, refl, sym, ap, subst, ℕ, ◌/◌, ◌%◌, ◌<◌, ◌==◌, ◌↔◌, if◌then◌else◌, List, [], ◌∷◌, ◌++◌, length, map, get_or, set, Option, None, Some, arith}
use Rattle.std.specs.List.{Contains, range_with_len}
use Rattle.std.specs.Option.{option_map_or}
use Rattle.std.proofs.lemmas.Bool.Decides.{eqb_tells}
use Rattle.std.proofs.lemmas.List.{ext_get_or, get_or-map, get_or-set_same, get_or-set_other, length-map, length-set}
use Rattle.std.proofs.lemmas.List.Elements.{Contains-get_or}
use Rattle.dvd_merge.proofs.Lattice.{same_members}
use Rattle.dvd_merge.proofs.Places.{Tells, tables-assoc, tables-comm, tables-idem}
use Rattle.std.proofs.lemmas.List.FromFn.{length-map-range_with_len, get_or-map-range_with_len}
use Rattle.dvd_layout.specs.Plan.{plan_of}
use Rattle.dvd_layout.specs.declared.layout.Layout.{Layout}
use Rattle.dvd_layout.specs.declared.layout.Zones.TheVariants.{DataOnly}
use Rattle.dvd_merge.specs.Join.{Table, join_tables, joined, unseen}
use Rattle.dvd_assemble.specs.Assembled.{assembled, frame_table, settled, table_for, table_of_frame, with_frame}
use Rattle.dvd_assemble.specs.Frames.{Frame}
use Rattle.dvd_assemble.specs.Home.{home}
use Rattle.dvd_assemble.proofs.Tables.{IsShaped, by_table, join_none, joined-more, joined-shaped, length-frame_table, length-unseen}

-- what all these frames say of block k
abbrev pub block_at : Layout → List Frame → ℕ → Table
block_at layout frames k = joined (map (table_of_frame layout k) frames)

-- there is a block for each of the plan
pub length-assembled : (layout : Layout) (frames : List Frame) → length (assembled layout frames) ≡ length (plan_of layout DataOnly)
unfolding assembled
length-assembled layout frames = length-map-range_with_len (block_at layout frames) 0 (length (plan_of layout DataOnly))

-- and block k is the join of what all frames say of it
pub assembled-at : (layout : Layout) (frames : List Frame) (k : ℕ) (d : Table) → k < length (plan_of layout DataOnly)
    → get_or (assembled layout frames) k d ≡ block_at layout frames k
unfolding assembled
assembled-at layout frames k d within = get_or-map-range_with_len (block_at layout frames) 0 (length (plan_of layout DataOnly)) k k d within (omega arith)

-- by the home
abbrev told_by : ℕ → Frame → Option ℕ → Table
told_by k frame place = option_map_or (table_for k frame) place unseen

-- what a frame says of a block depends on the frame's home alone
told-by : (layout : Layout) (k : ℕ) (frame : Frame) → table_of_frame layout k frame ≡ told_by k frame (home layout frame)
unfolding table_of_frame
told-by layout k frame = refl

-- the blocks with one frame more, by the home that it has
abbrev settled_by : List Table → Frame → Option ℕ → List Table
settled_by tables frame place = option_map_or (λ n. set tables (n / 16) (with_frame (n % 16) frame (get_or tables (n / 16) unseen))) place tables

-- what a frame changes depends on its home alone
settled-by : (layout : Layout) (tables : List Table) (frame : Frame) → settled layout tables frame ≡ settled_by tables frame (home layout frame)
unfolding settled
settled-by layout tables frame = refl

-- what a frame says of a block has 208 rows, by the home
length-told_by : (k : ℕ) (frame : Frame) (place : Option ℕ) → length (told_by k frame place) ≡ 208
length-told_by k frame None = length-unseen
length-told_by k frame (Some n) = by_block (eqb_tells (n / 16) k)
  where
    by_block : Tells (n / 16) k → length (if n / 16 == k then frame_table (n % 16) frame else unseen) ≡ 208
    by_block (inl here) = rw here.0 (length-frame_table (n % 16) frame)
    by_block (inr elsewhere) = rw elsewhere.0 length-unseen

-- and so for each frame
pub length-table_of_frame : (layout : Layout) (k : ℕ) (frame : Frame) → length (table_of_frame layout k frame) ≡ 208
length-table_of_frame layout k frame = ap length (told-by layout k frame) ∙ length-told_by k frame (home layout frame)

-- a block of frames has 208 rows of at most 182 places
shaped : (layout : Layout) (frames : List Frame) (k : ℕ) → IsShaped (block_at layout frames k)
shaped layout frames k = joined-shaped (table_of_frame layout k) (length-table_of_frame layout k) frames

-- a frame that is joined leaves as many blocks as there were
length-settled_by : (tables : List Table) (frame : Frame) (place : Option ℕ) → length (settled_by tables frame place) ≡ length tables
length-settled_by tables frame None = refl
length-settled_by tables frame (Some n) = length-set tables (n / 16) (with_frame (n % 16) frame (get_or tables (n / 16) unseen))

-- each block is joined with what the frame says of it
settled-at : (tables : List Table) (frame : Frame) (place : Option ℕ) (k : ℕ) → k < length tables → IsShaped (get_or tables k unseen)
    → get_or (settled_by tables frame place) k unseen ≡ join_tables (get_or tables k unseen) (told_by k frame place)
settled-at tables frame None k within shape = sym (join_none (get_or tables k unseen) shape)
settled-at tables frame (Some n) k within shape = by_block (eqb_tells (n / 16) k)
  where
    other : Table
    other = with_frame (n % 16) frame (get_or tables (n / 16) unseen)

    by_block : Tells (n / 16) k
        → get_or (set tables (n / 16) other) k unseen ≡ join_tables (get_or tables k unseen) (if n / 16 == k then frame_table (n % 16) frame else unseen)
    by_block (inl here) =
        rw here.0 (ap (λ b. get_or (set tables b (with_frame (n % 16) frame (get_or tables b unseen))) k unseen) here.1
        ∙ get_or-set_same tables k (with_frame (n % 16) frame (get_or tables k unseen)) unseen within
        ∙ by_table (n % 16) frame (get_or tables k unseen) shape)
    by_block (inr elsewhere) =
        rw elsewhere.0 (get_or-set_other tables (n / 16) k other unseen (λ same. elsewhere.1 (sym same)) ∙ sym (join_none (get_or tables k unseen) shape))

-- blocks that some frames make, with one frame more settled, are those that all of them make
pub one_more : (layout : Layout) (frames : List Frame) (frame : Frame) → settled layout (assembled layout frames) frame ≡ assembled layout (frames ++ frame ∷ [])
one_more layout frames frame =
    settled-by layout (assembled layout frames) frame
    ∙ ext_get_or unseen (settled_by (assembled layout frames) frame (home layout frame)) (assembled layout (frames ++ frame ∷ []))
    (length-settled_by (assembled layout frames) frame (home layout frame) ∙ length-assembled layout frames ∙ sym (length-assembled layout (frames ++ frame ∷ [])))
    (λ k within. at k (omega (arith, within, length-settled_by (assembled layout frames) frame (home layout frame), length-assembled layout frames)))
  where
    at : (k : ℕ) → k < length (plan_of layout DataOnly)
        → get_or (settled_by (assembled layout frames) frame (home layout frame)) k unseen ≡ get_or (assembled layout (frames ++ frame ∷ [])) k unseen
    at k within =
        let here = assembled-at layout frames k unseen within in
        settled-at (assembled layout frames) frame (home layout frame) k (omega (arith, within, length-assembled layout frames))
        (subst IsShaped (sym here) (shaped layout frames k))
        ∙ ap (λ table. join_tables table (told_by k frame (home layout frame))) here
        ∙ ap (join_tables (block_at layout frames k)) (sym (told-by layout k frame))
        ∙ sym (joined-more (table_of_frame layout k) frames frame)
        ∙ sym (assembled-at layout (frames ++ frame ∷ []) k unseen within)

-- no frame
pub none_yet : (layout : Layout) → assembled layout [] ≡ map (λ k. unseen) (range_with_len 0 (length (plan_of layout DataOnly)))
unfolding assembled joined
none_yet layout = refl

-- where a list has the members of another, its images have those of the other's
told_member : {A B : Type 0} (f : A → B) (xs ys : List A) → ((x : A) → Contains xs x → Contains ys x) → (y : B) → Contains (map f xs) y → Contains (map f ys) y
told_member f [] ys same y (k, within, is) = absurd (omega (arith, within))
told_member f (x ∷ xs) ys same y (k, within, is) =
    let inside : k < length (x ∷ xs) = omega (arith, within, length-map (x ∷ xs) f) in
    let source = get_or (x ∷ xs) k x in
    let image : f source ≡ y = sym (get_or-map f (x ∷ xs) k x y inside) ∙ is in
    let there = same source (Contains-get_or (x ∷ xs) k x inside) in
    (there.0, omega (arith, there.1, length-map ys f), get_or-map f ys there.0 source y there.1 ∙ ap f there.2 ∙ image)

-- functions that have the same values map a list to the same one
map_same : {B : Type 0} (f g : ℕ → B) → ((k : ℕ) → f k ≡ g k) → (xs : List ℕ) → map f xs ≡ map g xs
map_same f g same [] = refl
map_same f g same (x ∷ xs) = ap (λ y. y ∷ map f xs) (same x) ∙ ap (λ ys. g x ∷ ys) (map_same f g same xs)

-- neither the order of the frames nor their repetition changes the blocks
pub same_set : (layout : Layout) (a b : List Frame) → ((frame : Frame) → Contains a frame ↔ Contains b frame) → assembled layout a ≡ assembled layout b
unfolding assembled joined
same_set layout a b same =
    map_same (block_at layout a) (block_at layout b)
    (λ k. same_members join_tables tables-comm tables-assoc tables-idem unseen (map (table_of_frame layout k) a) (map (table_of_frame layout k) b)
    (λ table. (told_member (table_of_frame layout k) a b (λ x. (same x).0) table, told_member (table_of_frame layout k) b a (λ x. (same x).1) table)))
    (range_with_len 0 (length (plan_of layout DataOnly)))
