-- What a line says by itself: sectors that are there, and no more written than the image has.
use Rattle.std.proofs.Common.{◌≡◌, ℕ, ◌≤◌, ◌<◌, ◌==◌, Bool, true, false, nat_lt, if◌then◌else◌, List, codes, length, take, slice_get, Option, None, Some, Result, Ok, Err, refl, subst, arith}
use Rattle.std.proofs.lemmas.Bool.{eqb-false}
use Rattle.std.proofs.lemmas.List.Sums.{sum_by-take-le}
use Rattle.dvd_layout.specs.Place.{image_before, image_sectors, total_sectors}
use Rattle.dvd_layout.specs.Plan.{plan_of}
use Rattle.dvd_layout.specs.declared.entry.BlockPlan.{BlockPlan}
use Rattle.dvd_layout.specs.declared.layout.Layout.{Layout}
use Rattle.dvd_layout.specs.declared.layout.Zones.{Zones}
use Rattle.dvd_layout.proofs.InOrder.{plan_of-whole}
use Rattle.cap_lost.specs.Blocks.{after_prefix, entry_said, extent_of, prefix_of, is_refusal, is_round, is_text, number_said, what_said}
use Rattle.cap_lost.specs.Closings.{count_said, counted_in, is_fault, stop_said, stopped_in}
use Rattle.cap_lost.specs.Prefixes.{without_prefix, number_first}
use Rattle.cap_lost.specs.Report.{line_said, word_said}
use Rattle.cap_lost.specs.declared.draft.Said.{Said}
use Rattle.cap_lost.specs.declared.draft.Said.TheVariants.{Refused, GivenBack, Ended}
use Rattle.cap_lost.specs.declared.extent.Extent.{Extent}
use Rattle.cap_lost.specs.declared.fault.ReportCause.{ReportCause}
use Rattle.cap_lost.specs.declared.fault.ReportCause.TheVariants.{Line, Block, NoImage, Fault}

module _ {A E : Type 0} where
  -- the answer of a test that wasn't refused
  pub not_refused : (b : Bool) (fault : E) (answer : Result A E) (value : A) → (if b then Err fault else answer) ≡ Ok value → (b ≡ false) × (answer ≡ Ok value)
  not_refused true fault answer value is = absurd cc
  not_refused false fault answer value is = (refl, is)

-- two answers are the same
abbrev pub Same : {A E : Type 0} → Result A E → Result A E → Type 0
Same one other = one ≡ other

pub ok_is : {A E : Type 0} (x y : A) → Same {A = A} {E = E} (Ok x) (Ok y) → x ≡ y
ok_is x y is = cc

-- what is said is of sectors that are there
abbrev pub IsOfImage : Layout → Said → Type 0
IsOfImage layout (Refused extent) = extent.from < extent.to
IsOfImage layout (GivenBack extent) = extent.from < extent.to
IsOfImage layout (Ended refused written) = written ≤ total_sectors layout

module _ (layout : Layout) (zones : Zones) (said : Said) where
  by_answer : (extent : Extent) (refused round : Bool) → extent.from < extent.to
      → (if refused then Ok (Refused extent) else (if round then Ok (GivenBack extent) else Err Line)) ≡ Ok said → IsOfImage layout said
  by_answer extent true round some is = subst (IsOfImage layout) (ok_is (Refused extent) said is) some
  by_answer extent false true some is = subst (IsOfImage layout) (ok_is (GivenBack extent) said is) some
  by_answer extent false false some is = absurd cc

  by_prefix : (entry : BlockPlan) (what : Option (List ℕ)) → after_prefix layout entry what ≡ Ok said → IsOfImage layout said
  by_prefix entry None is = absurd cc
  by_prefix entry (Some what) is =
      let count = image_sectors layout entry.content in
      let extent = extent_of layout entry.content in
      let holds = not_refused (count == 0) NoImage (what_said extent what) said is in
      by_answer extent (is_refusal what) (is_round what) (omega (arith, eqb-false count 0 holds.0)) holds.1

  by_entry : (k : ℕ) (line : List ℕ) (entry : Option BlockPlan) → entry_said layout k line entry ≡ Ok said → IsOfImage layout said
  by_entry k line None is = absurd cc
  by_entry k line (Some entry) is = by_prefix entry (without_prefix (prefix_of k entry) line) is

  by_number : (line : List ℕ) (found : Option (ℕ × List ℕ)) → number_said layout zones line found ≡ Ok said → IsOfImage layout said
  by_number line None is = absurd cc
  by_number line (Some found) is = by_entry found.0 line (slice_get (plan_of layout zones) found.0) is

  written_of : (k : ℕ) → image_before layout (take k (plan_of layout zones)) ≤ total_sectors layout
  written_of k = subst (λ n. image_before layout (take k (plan_of layout zones)) ≤ n) (plan_of-whole layout zones) (sum_by-take-le (λ entry. image_sectors layout entry.content) (plan_of layout zones) k)

  by_within : (b : Bool) (written : ℕ) → written ≤ total_sectors layout → (if b then Ok (Ended None written) else Err Block) ≡ Ok said → IsOfImage layout said
  by_within true written fits is = subst (IsOfImage layout) (ok_is (Ended None written) said is) fits
  by_within false written fits is = absurd cc

  by_stop : (k : Option ℕ) → stop_said layout zones k ≡ Ok said → IsOfImage layout said
  by_stop None is = absurd cc
  by_stop (Some k) is = by_within (nat_lt k (length (plan_of layout zones))) (image_before layout (take k (plan_of layout zones))) (written_of k) is

  by_count : (refused k : Option ℕ) → count_said layout refused (stop_said layout zones k) ≡ Ok said → IsOfImage layout said
  by_count None k is = by_stop k is
  by_count (Some refused) k is = subst (IsOfImage layout) (ok_is (Ended (Some refused) (total_sectors layout)) said is) (omega arith)

  by_long : (long : Bool) (refused k : Option ℕ)
      → (if long then Ok (Ended None (total_sectors layout)) else count_said layout refused (stop_said layout zones k)) ≡ Ok said → IsOfImage layout said
  by_long true refused k is = subst (IsOfImage layout) (ok_is (Ended None (total_sectors layout)) said is) (omega arith)
  by_long false refused k is = by_count refused k is

  by_word : (line : List ℕ) (rest : Option (List ℕ)) → word_said layout zones line rest ≡ Ok said → IsOfImage layout said
  by_word line None is =
      let long : Result Said ReportCause = if is_text (codes "long") line then Ok (Ended None (total_sectors layout)) else count_said layout (counted_in line) (stop_said layout zones (stopped_in line)) in
      by_long (is_text (codes "long") line) (counted_in line) (stopped_in line) (not_refused (is_fault line) Fault long said is).1
  by_word line (Some rest) is = by_number line (number_first rest) is

  -- what a line says
  pub of_image : (line : List ℕ) → line_said layout zones line ≡ Ok said → IsOfImage layout said
  of_image line is = by_word line (without_prefix (codes "block ") line) is
