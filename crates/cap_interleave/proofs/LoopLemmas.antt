-- The loop over units: what holds before each, and how it ends.
use Rattle.std.proofs.Common.{◌≡◌, ◌∙◌, inl, inr, ◌+◌, ◌-◌, ◌*◌, ◌^◌, ◌<◌, ◌≤◌, ℕ, zero, suc, false, List, [], ◌∷◌, ◌++◌, length, slice_index, slice_index_or, refl, ap, sym, subst, arith, lit<, add-one, append-nil, length-append, Ok, Err}
use Rattle.std.proofs.Math.Nat.{mul-suc, mul-zero}
use Rattle.std.proofs.lemmas.Bool.{cases_lt}
use Rattle.std.proofs.lemmas.List.{get_or-replicate}
use Rattle.dvd_ports.specs.Bytes.{Appends}
use Rattle.dvd_ports.proofs.KnownLemmas.{Appends-none, Appends-then, Consumes-none, Consumes-then}
use Rattle.dvd_ports.proofs.StopLemmas.{fails_after, goes_on, unmoved}
use Rattle.dvd_ports.specs.Causes.{HasFailed, HasGoneOn}
use Rattle.dvd_ports.specs.Seen.{Seen}
use Rattle.dvd_ports.specs.Whole.{AppendsPrefix}
use Rattle.cap_interleave.specs.Blocks.{CaptureBytes, Task, capture_block, unit_bytes, units_of}
use Rattle.cap_interleave.specs.Inner.{AreReadTo, BuffersState, ChecksTo, EndsBroken, GivesBlock, HasFailedAt, IsUnitInterleaved, SomeCame, filled_blocks, fresh, task_of}
use Rattle.cap_interleave.specs.Interleaved.{AreDue, EndsInterleave, Gives, HasFailedWithin, HasGiven, HaveSome, IsInterleaved, Writes}
use Rattle.cap_interleave.specs.declared.ends.InterleaveEnd.{InterleaveEnd}
use Rattle.cap_interleave.specs.declared.ends.InterleaveEnd.TheVariants.{Done, Long, ReadFault, Short, WriteFault}
use Rattle.cap_interleave.proofs.StepLemmas.{IsStepped, Stands, block_before, stepped}
use Rattle.cap_interleave.proofs.UnitLemmas.{due_kept, then, unit_is, units_kept, units_more, units_none}

-- So many blocks of each capture were read and written.
pub record IsAfter {S : Type 0} (seen : S → Seen) (task : Task) (k : ℕ) (buffers : BuffersState) (olds news : List S) (old new : Seen) : Type 0 where
  pub came : CaptureBytes
  pub size : buffers.size ≡ task.size
  pub fill : buffers.fill ≡ task.fill
  pub count : length buffers.held ≡ task.count
  pub captures : length news ≡ task.count
  pub is_there : (c : ℕ) → c < task.count → Stands task.size k (slice_index buffers.held c) (came c)
  pub given : (c : ℕ) (d : S) → c < task.count → HasGiven task.size k (came c) (seen (slice_index_or olds c d)) (seen (slice_index_or news c d))
  pub due : (j : ℕ) → j < k → AreDue task came j
  pub writes : Appends old.bytes new.bytes (units_of task came k)
  pub on : HasGoneOn old new

-- none of them, before the first
pub begins : {S : Type 0} (seen : S → Seen) (buffers : BuffersState) (olds : List S) (old : Seen) → buffers ≡ fresh (task_of buffers) → length olds ≡ length buffers.held
    → IsAfter seen (task_of buffers) 0 buffers olds olds old old
begins seen buffers olds old is count = record {
  came = λ c. [];
  size = refl;
  fill = refl;
  count = refl;
  captures = count;
  is_there = λ c inside.
      let held : slice_index buffers.held c ≡ buffers.size = ap (λ (b : BuffersState). slice_index b.held c) is ∙ get_or-replicate (length buffers.held) c buffers.size 0 inside in
      inl (omega (arith, held), sym (mul-zero buffers.size));
  given = λ c d inside. record { reads = Consumes-none _; answers = inl (sym (mul-zero buffers.size), unmoved _) };
  due = λ j before. absurd (omega (arith, before));
  writes = subst (Appends old.bytes old.bytes) (sym (units_none (task_of buffers) (λ c. []))) (Appends-none old.bytes);
  on = unmoved old;
}

-- a list with a place has an element
pub any : {S : Type 0} (xs : List S) (c : ℕ) → c < length xs → S
any [] c inside = absurd (omega (arith, inside))
any (x ∷ xs) c inside = x

module _ {S : Type 0} (seen : S → Seen) (task : Task) (k : ℕ) (b b2 : BuffersState) (olds mids news : List S) (old mid : Seen)
    (a : IsAfter seen task k b olds mids old mid) (r : AreReadTo seen (length mids) b b2 mids news) where
  -- each capture is one block further
  one : (c : ℕ) (d : S) → c < task.count → IsStepped task.size k (a.came c) (r.owns c) (seen (slice_index_or olds c d)) (seen (slice_index_or news c d))
  one c d inside =
      stepped task.size k (slice_index b.held c) (a.came c) (r.owns c) _ _ _ (a.is_there c inside) (a.given c d inside)
      (subst (λ s. GivesBlock s (slice_index b.held c) (r.owns c) (seen (slice_index_or mids c d)) (seen (slice_index_or news c d))) a.size (r.gives c d (omega (arith, inside, a.captures))))

  held_is : (c : ℕ) → c < task.count → slice_index b2.held c ≡ length (r.owns c)
  held_is c inside = r.held c (omega (arith, inside, a.captures))

  count_is : length b2.held ≡ task.count
  count_is = r.count ∙ a.count

  -- the same, whatever source there is
  at : (c : ℕ) (inside : c < task.count) → IsStepped task.size k (a.came c) (r.owns c) (seen (slice_index_or olds c (any mids c (omega (arith, inside, a.captures))))) (seen (slice_index_or news c (any mids c (omega (arith, inside, a.captures)))))
  at c inside = one c (any mids c (omega (arith, inside, a.captures))) inside

  -- the units before stay
  units_stay : units_of task (then a.came r.owns) k ≡ units_of task a.came k
  units_stay = units_kept task (then a.came r.owns) a.came k (λ c j inside before. (at c inside).before j before)

  -- and this unit is what was read
  unit_now : unit_bytes task (then a.came r.owns) k task.count ≡ b2.unit
  unit_now =
      unit_is task (then a.came r.owns) r.owns k task.count (λ c inside. (at c inside).now)
      ∙ ap (λ f. filled_blocks f r.owns task.count) (sym a.fill) ∙ ap (filled_blocks b.fill r.owns) (sym a.captures) ∙ sym r.unit

  due_before : (j : ℕ) → j < k → AreDue task (then a.came r.owns) j
  due_before j before = due_kept task a.came r.owns j (a.due j before)

  some_is : SomeCame b2 → HaveSome task (then a.came r.owns) k
  some_is some =
      let inside : some.0 < task.count = omega (arith, some.1, count_is) in
      (some.0, inside, (at some.0 inside).some (omega (arith, some.2, held_is some.0 inside)))

  -- the unit is due where it is to be written
  due_now : ChecksTo b2 k (Ok tt) → AreDue task (then a.came r.owns) k
  due_now check = record {
    some = some_is check.0;
    whole = λ not c inside. (at c inside).whole (omega (arith, check.1 (r.fill ∙ a.fill ∙ not) c (omega (arith, inside, count_is)), held_is c inside, r.size, a.size));
  }

  -- where blocks aren't filled all captures are whole so far
  whole_before : (c : ℕ) → c < task.count → task.fill ≡ false → task.size * k ≤ length (a.came c)
  whole_before c inside not = go k refl
    where
      go : (n : ℕ) → k ≡ n → task.size * k ≤ length (a.came c)
      go zero is = rw is (omega arith)
      go (suc j) is = subst (λ n. task.size * n ≤ length (a.came c)) (sym is) ((a.due j (omega (arith, is))).whole not c inside)

  -- the unit was written
  pub next : (new : Seen) → ChecksTo b2 k (Ok tt) → Appends mid.bytes new.bytes b2.unit → HasGoneOn mid new → IsAfter seen task (k + 1) b2 olds news old new
  next new check written went = subst (λ m. IsAfter seen task m b2 olds news old new) (sym (add-one k)) (record {
    came = then a.came r.owns;
    size = r.size ∙ a.size;
    fill = r.fill ∙ a.fill;
    count = count_is;
    captures = r.captures ∙ a.captures;
    is_there = λ c inside. subst (λ h. Stands task.size (suc k) h (then a.came r.owns c)) (sym (held_is c inside)) (at c inside).is_there;
    given = λ c d inside. (one c d inside).given;
    due = λ j before. elim (cases_lt j k) [
      | inl earlier ↦ due_before j earlier
      | inr later ↦ subst (AreDue task (then a.came r.owns)) (omega (arith, later, before)) (due_now check)
    ];
    writes = subst (Appends old.bytes new.bytes)
        (ap (λ l. l ++ b2.unit) (sym units_stay) ∙ ap (λ l. units_of task (then a.came r.owns) k ++ l) (sym unit_now) ∙ sym (units_more task (then a.came r.owns) k))
        (Appends-then old.bytes mid.bytes new.bytes (units_of task a.came k) b2.unit a.writes written);
    on = goes_on old mid new a.on went;
  })

  -- what was written before, by what came with this unit
  writes_before : Appends old.bytes mid.bytes (units_of task (then a.came r.owns) k)
  writes_before = subst (Appends old.bytes mid.bytes) (sym units_stay) a.writes

  -- A run that ends in this unit: the units before it are due, by what came with it too.
  ended : (new : Seen) (end : InterleaveEnd) → k < 2 ^ 32
      → ((c : ℕ) (d : S) → c < task.count → Gives task.size k end c (then a.came r.owns c) (seen (slice_index_or olds c d)) (seen (slice_index_or news c d)))
      → Writes task (then a.came r.owns) k end old new → EndsInterleave task (then a.came r.owns) k end → IsInterleaved seen task olds news old new end
  ended new end few gives writes ends = record {
    came = then a.came r.owns;
    units = k;
    few = few;
    due = due_before;
    gives = gives;
    writes = writes;
    ends = ends;
  }

  -- no byte of this unit came
  done : k < 2 ^ 32 → ChecksTo b2 k (Err Done) → IsInterleaved seen task olds news old mid Done
  done few check =
      ended mid Done few (λ c d inside. (one c d inside).given) (writes_before, a.on)
      (λ c inside. (at c inside).over (sym (held_is c inside) ∙ check c (omega (arith, inside, count_is))))

  -- a capture doesn't have its block whole
  short : (c j bytes : ℕ) → k < 2 ^ 32 → ChecksTo b2 k (Err (Short c j bytes)) → IsInterleaved seen task olds news old mid (Short c j bytes)
  short c j bytes few (is, not, some, counted, before, held, fewer) =
      let inside : c < task.count = omega (arith, counted, count_is) in
      let not_filled : task.fill ≡ false = sym (r.fill ∙ a.fill) ∙ not in
      ended mid (Short c j bytes) few (λ c d inside. (one c d inside).given) (writes_before, a.on) (
        is,
        record {
          not_filled = not_filled;
          some = some_is some;
          capture = inside;
          before = λ b earlier. (at b (omega (arith, earlier, inside))).whole (omega (arith, before b earlier, held_is b (omega (arith, earlier, inside)), r.size, a.size));
          held = (at c inside).exact (whole_before c inside not_filled) ∙ ap (λ n. task.size * k + n) (sym (held_is c inside) ∙ held);
          fewer = omega (arith, fewer, r.size, a.size);
        },
      )

  -- the unit was written in part
  cut : (new : Seen) → k < 2 ^ 32 → ChecksTo b2 k (Ok tt) → AppendsPrefix mid.bytes new.bytes b2.unit → HasFailed mid new → IsInterleaved seen task olds news old new WriteFault
  cut new few check begun failed =
      ended new WriteFault few (λ c d inside. (one c d inside).given) (record {
        prefix = begun.taken;
        left = begun.rest;
        parts = unit_now ∙ sym begun.whole;
        more = begun.more;
        writes = Appends-then old.bytes mid.bytes new.bytes (units_of task (then a.came r.owns) k) begun.taken writes_before begun.grows;
        failed = fails_after old mid new a.on failed;
      }) (due_now check)

module _ {S : Type 0} (seen : S → Seen) (task : Task) (k : ℕ) (b : BuffersState) (olds mids news : List S) (old mid : Seen)
    (a : IsAfter seen task k b olds mids old mid) (n : ℕ) (r : HasFailedAt seen n b mids news) where
  -- A capture before the one that failed is one block further.
  further : (c : ℕ) (d : S) → c < n → IsStepped task.size k (a.came c) (r.owns c) (seen (slice_index_or olds c d)) (seen (slice_index_or news c d))
  further c d earlier =
      let inside : c < task.count = omega (arith, earlier, r.capture, a.captures) in
      stepped task.size k (slice_index b.held c) (a.came c) (r.owns c) _ _ _ (a.is_there c inside) (a.given c d inside)
      (subst (λ s. GivesBlock s (slice_index b.held c) (r.owns c) (seen (slice_index_or mids c d)) (seen (slice_index_or news c d))) a.size (r.gives c d earlier))

  inside_is : n < task.count
  inside_is = omega (arith, r.capture, a.captures)

  -- The one that failed was asked, so all of its blocks came so far.
  whole_so_far : (d : S) → length (a.came n) ≡ task.size * k
  whole_so_far d = elim (a.is_there n inside_is) [
    | inl (asked, whole) ↦ whole
    | inr (ended, few) ↦ absurd (omega (arith, ended, (r.breaks d).asked, a.size))
  ]

  breaks_off : (d : S) → HasFailedWithin task.size k (then a.came r.owns n) (seen (slice_index_or olds n d)) (seen (slice_index_or news n d))
  breaks_off d =
      let grown = length-append (a.came n) (r.owns n) in
      let given = a.given n d inside_is in
      let on : HasGoneOn (seen (slice_index_or olds n d)) (seen (slice_index_or mids n d)) = elim given.answers [
        | inl (whole, on) ↦ on
        | inr (fewer, end, met) ↦ absurd (omega (arith, fewer, whole_so_far d))
      ] in
      record {
        reads = Consumes-then _ _ _ (a.came n) (r.owns n) given.reads (r.breaks d).reads;
        whole = omega (arith, grown, whole_so_far d);
        fewer = omega (arith, grown, whole_so_far d, (r.breaks d).fewer, a.size, mul-suc task.size k);
        failed = fails_after _ _ _ on (r.breaks d).failed;
      }

  -- Those after it are as they were.
  as_before : (c : ℕ) → n < c → then a.came r.owns c ≡ a.came c
  as_before c later = ap (λ l. a.came c ++ l) (r.none c later) ∙ append-nil (a.came c)

  blocks_stay : (c j : ℕ) → c < task.count → j < k → capture_block task.size j (then a.came r.owns c) ≡ capture_block task.size j (a.came c)
  blocks_stay c j inside before = elim (cases_lt c n) [
    | inl earlier ↦ (further c (any mids c (omega (arith, inside, a.captures))) earlier).before j before
    | inr from ↦ elim (cases_lt n c) [
      | inl later ↦ ap (capture_block task.size j) (as_before c later)
      | inr to ↦
          let is : n ≡ c = omega (arith, from, to) in
          subst (λ m. capture_block task.size j (then a.came r.owns m) ≡ capture_block task.size j (a.came m)) is
          (block_before task.size k j (a.came n) (r.owns n) before (omega (arith, whole_so_far (any mids c (omega (arith, inside, a.captures))))))
    ]
  ]

  broken : k < 2 ^ 32 → IsInterleaved seen task olds news old mid (ReadFault n)
  broken few = record {
    came = then a.came r.owns;
    units = k;
    few = few;
    due = λ j before. due_kept task a.came r.owns j (a.due j before);
    gives = λ c d inside. (
      λ earlier. (further c d earlier).given,
      λ is. subst (λ m. HasFailedWithin task.size k (then a.came r.owns m) (seen (slice_index_or olds m d)) (seen (slice_index_or news m d))) (sym is) (breaks_off d),
      λ later.
          subst (λ l. HasGiven task.size k l (seen (slice_index_or olds c d)) (seen (slice_index_or news c d))) (sym (as_before c later))
          (subst (λ s. HasGiven task.size k (a.came c) (seen (slice_index_or olds c d)) (seen s)) (sym (r.others c d later)) (a.given c d inside)),
    );
    writes = (subst (Appends old.bytes mid.bytes) (sym (units_kept task (then a.came r.owns) a.came k blocks_stay)) a.writes, a.on);
    ends = inside_is;
  }

-- an iteration that ends the loop
pub finishes : {S : Type 0} (seen : S → Seen) (task : Task) (k : ℕ) (b b2 : BuffersState) (olds mids news : List S) (old mid new : Seen) (end : InterleaveEnd)
    → IsAfter seen task k b olds mids old mid → k < 2 ^ 32 → IsUnitInterleaved seen k b b2 mids news mid new (Err end) → IsInterleaved seen task olds news old new end
finishes seen task k b b2 olds mids news old mid new Done a few (r, check, same) =
    subst (λ s. IsInterleaved seen task olds news old s Done) (sym same) (done seen task k b b2 olds mids news old mid a r few check)
finishes seen task k b b2 olds mids news old mid new (Short c j bytes) a few (r, check, same) =
    subst (λ s. IsInterleaved seen task olds news old s (Short c j bytes)) (sym same) (short seen task k b b2 olds mids news old mid a r c j bytes few check)
finishes seen task k b b2 olds mids news old mid new (ReadFault n) a few (r, same) =
    subst (λ s. IsInterleaved seen task olds news old s (ReadFault n)) (sym same) (broken seen task k b olds mids news old mid a n r few)
finishes seen task k b b2 olds mids news old mid new WriteFault a few (r, check, begun, failed) = cut seen task k b b2 olds mids news old mid a r new few check begun failed
finishes seen task k b b2 olds mids news old mid new Long a few (r, check, same) = absurd check

-- the numbers are at their end
pub long : {S : Type 0} (seen : S → Seen) (task : Task) (b : BuffersState) (olds news : List S) (old new : Seen) → IsAfter seen task (2 ^ 32 - 1) b olds news old new
    → IsInterleaved seen task olds news old new Long
long seen task b olds news old new a = record {
  came = a.came;
  units = 2 ^ 32 - 1;
  few = lit< tt;
  due = a.due;
  gives = λ c d inside. a.given c d inside;
  writes = (a.writes, a.on);
  ends = refl;
}

-- an iteration that ends within its reads, or where its captures end
pub broken_turn : {S : Type 0} (seen : S → Seen) (k : ℕ) (b b2 : BuffersState) (mids news : List S) (old : Seen) (end : InterleaveEnd) → EndsBroken seen b mids news end
    → IsUnitInterleaved seen k b b2 mids news old old (Err end)
broken_turn seen k b b2 mids news old (ReadFault n) broken = (broken, refl)
broken_turn seen k b b2 mids news old Done broken = absurd broken
broken_turn seen k b b2 mids news old (Short c j bytes) broken = absurd broken
broken_turn seen k b b2 mids news old WriteFault broken = absurd broken
broken_turn seen k b b2 mids news old Long broken = absurd broken

pub checked_turn : {S : Type 0} (seen : S → Seen) (k : ℕ) (b b2 : BuffersState) (mids news : List S) (old : Seen) (end : InterleaveEnd) → AreReadTo seen (length mids) b b2 mids news
    → ChecksTo b2 k (Err end) → IsUnitInterleaved seen k b b2 mids news old old (Err end)
checked_turn seen k b b2 mids news old Done r check = (r, check, refl)
checked_turn seen k b b2 mids news old (Short c j bytes) r check = (r, check, refl)
checked_turn seen k b b2 mids news old (ReadFault n) r check = absurd check
checked_turn seen k b b2 mids news old WriteFault r check = absurd check
checked_turn seen k b b2 mids news old Long r check = absurd check
