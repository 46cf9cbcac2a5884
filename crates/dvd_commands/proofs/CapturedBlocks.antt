-- Captured blocks one after the other in a stream.
use Rattle.std.proofs.Common.{◌≡◌, inl, inr, ℕ, zero, suc, ◌+◌, ◌*◌, ◌<◌, List, [], ◌++◌, length, take, drop, refl, ap, sym, subst, ◌∙◌, take-append-drop, append_assoc, length-append, arith}
use Rattle.std.proofs.Math.Nat.{mul-suc, mul-zero}
use Rattle.std.proofs.Math.Seq.{drop-append_seam, take-append_seam}
use Rattle.std.proofs.lemmas.Bool.{cases_lt}
use Rattle.std.proofs.lemmas.List.{drop-drop}
use Rattle.dvd_capture.specs.Captured.{HasSize, block_size, unit_size}
use Rattle.dvd_capture.specs.declared.form.Form.{Form}
use Rattle.dvd_capture.proofs.Fetching.{sized-block}
use Rattle.dvd_loop.specs.Laws.{AreDetermined, AreTotal}
use Rattle.dvd_loop.specs.Machine.{Step, Units}
use Rattle.dvd_loop.specs.Machine.Prefix.{Whole, Broken}
use Rattle.dvd_loop.specs.declared.ends.UnitKind.{UnitKind}
use Rattle.dvd_commands.specs.Captured.{HasBlocks, block_bytes, block_start, captured_part, from_block}
use Rattle.dvd_commands.proofs.CapturedParts.{begins_somehow, broken_stays, prefix_whole, whole_size, whole_stays}
use Rattle.dvd_loop.proofs.Apart.{BeginWith}

-- block 0 begins at the front
pub start-zero : (form : Form) (bytes : List ℕ) → block_start form bytes 0 ≡ 0
unfolding block_start
start-zero form bytes = refl

-- the next block begins after block k
pub start-suc : (form : Form) (bytes : List ℕ) (k : ℕ)
    → block_start form bytes (suc k) ≡ block_start form bytes k + unit_size form (from_block form bytes k)
unfolding block_start
start-suc form bytes k = refl

-- in a form of one size each begins after as many bytes
pub start-sized : (form : Form) → HasSize form → (bytes : List ℕ) (k : ℕ) → block_start form bytes k ≡ block_size form * k
start-sized form one bytes zero = start-zero form bytes ∙ sym (mul-zero (block_size form))
start-sized form one bytes (suc k) =
    omega (arith, start-suc form bytes k, sized-block form one (from_block form bytes k), start-sized form one bytes k, mul-suc (block_size form) k)

-- the bytes from a block on are its own and those from the next on
pub from-next : (form : Form) (bytes : List ℕ) (k : ℕ) → from_block form bytes k ≡ block_bytes form bytes k ++ from_block form bytes (suc k)
from-next form bytes k =
    let n = unit_size form (from_block form bytes k) in
    sym (take-append-drop n (from_block form bytes k))
    ∙ ap (λ l. block_bytes form bytes k ++ l) (drop-drop n (block_start form bytes k) bytes ∙ ap (λ m. drop m bytes) (sym (start-suc form bytes k)))

-- a block that is whole in the stream is so by its own bytes
pub block-whole : (form : Form) (bytes : List ℕ) (n : ℕ) → HasBlocks form bytes n → (k : ℕ) → k < n
    → captured_part form (block_bytes form bytes k) ≡ Whole (length (block_bytes form bytes k))
block-whole form bytes n has k lt = (prefix_whole form (from_block form bytes k) (has k lt)).1

-- Captured blocks as the units of a command: bytes that have n blocks begin with n whole units.
pub begin_blocks : (units : Units) (form : Form) → ((k : ℕ) (own : List ℕ) → units.begins k own ≡ captured_part form own)
    → (bytes : List ℕ) (n : ℕ)
    → HasBlocks form bytes n → BeginWith units (block_bytes form bytes) (from_block form bytes) n bytes
begin_blocks units form begins bytes n has = record {
  first = ap (λ m. drop m bytes) (start-zero form bytes);
  next = λ j lt. from-next form bytes j;
  whole = λ j lt. begins j (block_bytes form bytes j) ∙ block-whole form bytes n has j lt;
}

-- a unit that is whole is so whatever follows
pub blocks_stay : (units : Units) (form : Form) → ((k : ℕ) (own : List ℕ) → units.begins k own ≡ captured_part form own)
    → (k : ℕ) (own more : List ℕ)
    → units.begins k own ≡ Whole (length own) → units.begins k (own ++ more) ≡ Whole (length own)
blocks_stay units form begins k own more whole = begins k (own ++ more) ∙ whole_stays form own more (sym (begins k own) ∙ whole)

-- and one that breaks a rule breaks it at the same place
pub blocks_break : (units : Units) (form : Form) → ((k : ℕ) (own : List ℕ) → units.begins k own ≡ captured_part form own)
    → (k at : ℕ) (own more : List ℕ)
    → units.begins k own ≡ Broken at → units.begins k (own ++ more) ≡ Broken at
blocks_break units form begins k at own more broken = begins k (own ++ more) ∙ broken_stays form at own more (sym (begins k own) ∙ broken)

-- units that are captured blocks are determined where one thing alone may be done for each
pub blocks_determined : (units : Units) (form : Form) → ((k : ℕ) (own : List ℕ) → units.begins k own ≡ captured_part form own)
    → ((before : List (List ℕ)) (own : List ℕ) (steps others : List Step) (kind other : UnitKind)
    → units.does (length before) before own steps kind → units.does (length before) before own others other
    → (steps ≡ others) × (kind ≡ other))
    → ((before : List (List ℕ)) (steps others : List Step) → units.closes before steps → units.closes before others → steps ≡ others)
    → AreDetermined units
blocks_determined units form begins one closing = record {
  whole = blocks_stay units form begins;
  broken = blocks_break units form begins;
  does = λ before own steps others kind other p q. one before own steps others kind other p.does q.does;
  closes = closing;
}

-- and whatever bytes there are, they begin somehow: where something may be done for each whole block, it may for all
pub blocks_total : (units : Units) (form : Form) → ((k : ℕ) (own : List ℕ) → units.begins k own ≡ captured_part form own)
    → ((before : List (List ℕ)) (own : List ℕ) → length before < units.count → captured_part form own ≡ Whole (length own)
    → (steps : List Step) × (kind : UnitKind) × units.does (length before) before own steps kind)
    → ((before : List (List ℕ)) → length before ≡ units.count → (steps : List Step) × units.closes before steps)
    → AreTotal units
blocks_total units form begins may closing = record {
  begins = λ k bytes lt. elim (begins_somehow form bytes) [
    | inl (own, left, prefix, whole) ↦ inl (own, left, prefix, begins k own ∙ whole)
    | inr (inl cut) ↦ inr (inl (begins k bytes ∙ cut))
    | inr (inr (own, left, at, prefix, broken)) ↦ inr (inr (own, left, at, prefix, begins k own ∙ broken))
  ];
  does = λ before own lt whole. may before own lt (sym (begins (length before) own) ∙ whole);
  closes = closing;
}

-- IN PLACE. So many blocks were passed, and these bytes are left.
pub record IsPast (form : Form) (all : List ℕ) (k : ℕ) (prefix left : List ℕ) : Type 0 where
  pub parts : all ≡ prefix ++ left
  pub at : length prefix ≡ block_start form all k
  pub has : HasBlocks form all k

-- none was passed yet
pub past_none : (form : Form) (all : List ℕ) → IsPast form all 0 [] all
past_none form all = record { parts = refl; at = sym (start-zero form all); has = λ j lt. absurd (omega arith) }

module _ (form : Form) (all : List ℕ) (k : ℕ) (prefix left : List ℕ) (past : IsPast form all k prefix left) where
  -- the bytes before block k
  pub prefix-is : take (block_start form all k) all ≡ prefix
  prefix-is = ap (λ n. take n all) (sym past.at) ∙ ap (take (length prefix)) past.parts ∙ take-append_seam prefix left

  -- and those from it on
  pub from-is : from_block form all k ≡ left
  from-is = ap (λ n. drop n all) (sym past.at) ∙ ap (drop (length prefix)) past.parts ∙ drop-append_seam prefix left

  module _ (own more : List ℕ) (is : left ≡ own ++ more) (whole : captured_part form own ≡ Whole (length own)) where
    -- its size is that of the unit
    size-is : unit_size form (from_block form all k) ≡ length own
    size-is =
        ap (unit_size form) (from-is ∙ is)
        ∙ sym (whole_size form (own ++ more) (length own) (whole_stays form own more whole)).0

    -- a whole unit there is block k
    pub own-is : block_bytes form all k ≡ own
    own-is = ap (λ n. take n (from_block form all k)) size-is ∙ ap (take (length own)) (from-is ∙ is) ∙ take-append_seam own more

    -- so one block more is whole
    pub has-one : HasBlocks form all (suc k)
    has-one j lt = elim (cases_lt j k) [
      | inl less ↦ past.has j less
      | inr le ↦
          let same : k ≡ j = omega (arith, lt, le) in
          subst (λ i. captured_part form (from_block form all i) ≡ Whole (unit_size form (from_block form all i))) same
          (ap (captured_part form) (from-is ∙ is) ∙ whole_stays form own more whole ∙ ap Whole (sym size-is))
    ]

    -- and it was passed
    pub past_next : IsPast form all (suc k) (prefix ++ own) more
    past_next = record {
      parts = past.parts ∙ ap (λ l. prefix ++ l) is ∙ sym (append_assoc prefix own more);
      at = length-append prefix own ∙ omega (arith, past.at, size-is, start-suc form all k);
      has = has-one;
    }
