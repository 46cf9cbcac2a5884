-- What places know where their values and codes are joined lane by lane.
use Rattle.std.proofs.Common.{◌≡◌, ◌≢◌, ℕ, ◌<◌, ◌==◌, Bool, true, false, not, if◌then◌else◌, cond, eqb, List, length, get_or, map, replicate, inl, inr, refl, sym, ◌∙◌, ap, subst, arith, w8}
use Rattle.std.specs.Simd.Lanes.{zip2, sel_l, top}
use Rattle.std.proofs.lemmas.Bool.Decides.{eqb_tells}
use Rattle.std.proofs.lemmas.Simd.{get_or-replicate, get_or-sel_l, get_or-zip2, length-sel_l, length-zip2, tops_compared}
use Rattle.dvd_capture.specs.MarkBits.{is_set}
use Rattle.dvd_merge.specs.Join.{byte_of, join, joined_mark, seen}
use Rattle.dvd_merge.specs.Planes.{code_of, place_from}
use Rattle.dvd_merge.specs.Inner.Rows.{HasLanes, is_unknown}
use Rattle.dvd_merge.specs.declared.place.Place.{Place}
use Rattle.dvd_merge.specs.declared.place.Place.TheVariants.{Unseen, Value, Conflict}
use Rattle.dvd_merge.proofs.Places.{Tells, conflict-join, join-apart, join-assoc, join-idem, join-same, join-unseen, unseen-join}

-- what is chosen lane by lane, where the lanes of two vectors are equal
pub HasLanes-pick : (a b same other : List ℕ) → length a ≡ 32 → length b ≡ 32 → length same ≡ 32 → length other ≡ 32
    → HasLanes (sel_l (map (top 7) (zip2 (λ x y. cond (eqb x y) 255 0) a b)) same other) (λ k. if get_or a k 0 == get_or b k 0 then get_or same k 0 else get_or other k 0)
HasLanes-pick a b same other size_a size_b size_same size_other =
    let masks : List Bool = zip2 eqb a b in
    let size : length masks ≡ 32 = length-zip2 eqb a b (size_a ∙ sym size_b) ∙ size_a in
    record {
      size = ap (λ ms. length (sel_l ms same other)) (tops_compared w8 eqb a b) ∙ length-sel_l masks same other (size ∙ sym size_same) (size ∙ sym size_other) ∙ size;
      each = λ k below.
          ap (λ ms. get_or (sel_l ms same other) k 0) (tops_compared w8 eqb a b)
          ∙ get_or-sel_l masks same other k 0 (omega (arith, below, size)) (omega (arith, below, size_same)) (omega (arith, below, size_other))
          ∙ ap (λ t. cond t (get_or same k 0) (get_or other k 0)) (get_or-zip2 eqb a b k 0 0 false (omega (arith, below, size_a)) (omega (arith, below, size_b)));
    }

-- a number is equal to itself
self_eqb : (a : ℕ) → (a == a) ≡ true
self_eqb a = by_cases (eqb_tells a a)
  where
    by_cases : Tells a a → (a == a) ≡ true
    by_cases (inl is) = is.0
    by_cases (inr is) = absurd (is.1 refl)

-- the value of a place to which this byte is joined
abbrev new_value : ℕ → ℕ → ℕ → ℕ
new_value v c b = if c == 0 then b else v

-- and its code
abbrev new_code : ℕ → ℕ → ℕ → ℕ
new_code v c b = if new_value v c b == b then (if c == 0 then 1 else c) else 2

-- a place that isn't seen gets the byte
first_byte : (v b : ℕ) → place_from (new_value v 0 b) (new_code v 0 b) ≡ join (place_from v 0) (Value b)
first_byte v b = rw (self_eqb b) (sym (unseen-join (Value b)))

-- a place that is seen keeps its byte, or comes in conflict
second_byte : (v b : ℕ) → place_from (new_value v 1 b) (new_code v 1 b) ≡ join (place_from v 1) (Value b)
second_byte v b = by_cases (eqb_tells v b)
  where
    by_cases : Tells v b → place_from (new_value v 1 b) (new_code v 1 b) ≡ join (place_from v 1) (Value b)
    by_cases (inl is) = rw is.0 (sym (ap (λ n. join (Value v) (Value n)) (sym is.1) ∙ join-same v))
    by_cases (inr is) = rw is.0 (sym (join-apart v b is.1))

-- any other code is that of a conflict
is_conflict : (v c : ℕ) → c ≢ 0 → c ≢ 1 → place_from v c ≡ Conflict
is_conflict v c some more = by_cases (eqb_tells c 0) (eqb_tells c 1)
  where
    by_cases : Tells c 0 → Tells c 1 → place_from v c ≡ Conflict
    by_cases (inl is) one = absurd (some is.1)
    by_cases (inr is) (inl one) = absurd (more one.1)
    by_cases (inr is) (inr one) = rw (is.0, one.0) refl

-- and stays
later_byte : (v c b : ℕ) → c ≢ 0 → c ≢ 1 → place_from (new_value v c b) (new_code v c b) ≡ join (place_from v c) (Value b)
later_byte v c b some more =
    code (eqb_tells (new_value v c b) b) ∙ sym (ap (λ p. join p (Value b)) (is_conflict v c some more) ∙ conflict-join (Value b))
  where
    kept : Tells c 0 → (if c == 0 then 1 else c) ≡ c
    kept (inl is) = absurd (some is.1)
    kept (inr is) = rw is.0 refl

    code : Tells (new_value v c b) b → place_from (new_value v c b) (new_code v c b) ≡ Conflict
    code (inl is) =
        ap (λ t. place_from (new_value v c b) (if t then (if c == 0 then 1 else c) else 2)) is.0
        ∙ ap (place_from (new_value v c b)) (kept (eqb_tells c 0)) ∙ is_conflict (new_value v c b) c some more
    code (inr is) = ap (λ t. place_from (new_value v c b) (if t then (if c == 0 then 1 else c) else 2)) is.0

-- a value and a code that are joined with a byte are those of the joined place
pub place-joined : (v c b : ℕ) → place_from (new_value v c b) (new_code v c b) ≡ join (place_from v c) (Value b)
place-joined v c b = by_cases (eqb_tells c 0) (eqb_tells c 1)
  where
    by_cases : Tells c 0 → Tells c 1 → place_from (new_value v c b) (new_code v c b) ≡ join (place_from v c) (Value b)
    by_cases (inl is) one = subst (λ n. place_from (new_value v n b) (new_code v n b) ≡ join (place_from v n) (Value b)) (sym is.1) (first_byte v b)
    by_cases (inr is) (inl one) = subst (λ n. place_from (new_value v n b) (new_code v n b) ≡ join (place_from v n) (Value b)) (sym one.1) (second_byte v b)
    by_cases (inr is) (inr one) = later_byte v c b is.1 one.1

-- where a place is marked it stays
pub place-marked : (m nv nc v c b : ℕ) → place_from nv nc ≡ join (place_from v c) (Value b)
    → place_from (if m == 0 then nv else v) (if m == 0 then nc else c) ≡ join (place_from v c) (seen b (is_set m))
place-marked m nv nc v c b is = by_cases (eqb_tells m 0)
  where
    by_cases : Tells m 0 → place_from (if m == 0 then nv else v) (if m == 0 then nc else c) ≡ join (place_from v c) (seen b (is_set m))
    by_cases (inl clear) = rw clear.0 is
    by_cases (inr set) = rw set.0 (sym (join-unseen (place_from v c)))

-- the byte of a place
pub place-byte : (v c : ℕ) → (if c == 1 then v else 0) ≡ byte_of (place_from v c)
place-byte v c = by_cases (eqb_tells c 0) (eqb_tells c 1)
  where
    by_cases : Tells c 0 → Tells c 1 → (if c == 1 then v else 0) ≡ byte_of (place_from v c)
    by_cases (inl is) one = subst (λ n. (if n == 1 then v else 0) ≡ byte_of (place_from v n)) (sym is.1) refl
    by_cases (inr is) (inl one) = subst (λ n. (if n == 1 then v else 0) ≡ byte_of (place_from v n)) (sym one.1) refl
    by_cases (inr is) (inr one) = ap (λ t. if t then v else 0) one.0 ∙ sym (ap byte_of (is_conflict v c is.1 one.1))

-- and its mark
pub place-unknown : (v c : ℕ) → is_unknown c ≡ joined_mark (place_from v c)
place-unknown v c = by_cases (eqb_tells c 0) (eqb_tells c 1)
  where
    by_cases : Tells c 0 → Tells c 1 → is_unknown c ≡ joined_mark (place_from v c)
    by_cases (inl is) one = subst (λ n. is_unknown n ≡ joined_mark (place_from v n)) (sym is.1) refl
    by_cases (inr is) (inl one) = subst (λ n. is_unknown n ≡ joined_mark (place_from v n)) (sym one.1) refl
    by_cases (inr is) (inr one) = ap not one.0 ∙ sym (ap joined_mark (is_conflict v c is.1 one.1))

-- a place as its byte and its code
pub place-again : (p : Place) → place_from (byte_of p) (code_of p) ≡ p
place-again Unseen = refl
place-again (Value byte) = refl
place-again Conflict = refl

-- the same twice is the same once
pub joined-again : (p q : Place) → join (join p q) q ≡ join p q
joined-again p q = join-assoc p q q ∙ ap (join p) (join-idem q)

-- a lane of zeros and the like
pub splat-lane : (x k : ℕ) → k < 32 → get_or (replicate 32 x) k 0 ≡ x
splat-lane x k below = get_or-replicate 32 k x 0 below

module _ (v c b none one two : ℕ) (none_is : none ≡ 0) (one_is : one ≡ 1) (two_is : two ≡ 2) where
  -- the place of the lanes that are chosen for it
  pub lane-joined : (nv sc nc : ℕ) → nv ≡ (if c == none then b else v) → sc ≡ (if c == none then one else c) → nc ≡ (if nv == b then sc else two)
      → place_from nv nc ≡ join (place_from v c) (Value b)
  lane-joined nv sc nc value seen_code code =
      let value_is : nv ≡ new_value v c b = value ∙ ap (λ z. if c == z then b else v) none_is in
      let seen_is : sc ≡ (if c == 0 then 1 else c) = seen_code ∙ (λ i. if c == none_is i then one_is i else c) in
      let code_is : nc ≡ new_code v c b = code ∙ (λ i. if value_is i == b then seen_is i else two_is i) in
      (λ i. place_from (value_is i) (code_is i)) ∙ place-joined v c b

-- and where it may be marked
pub lane-marked : (m z nv nc v c b rv rc : ℕ) → z ≡ 0 → rv ≡ (if m == z then nv else v) → rc ≡ (if m == z then nc else c)
    → place_from nv nc ≡ join (place_from v c) (Value b) → place_from rv rc ≡ join (place_from v c) (seen b (is_set m))
lane-marked m z nv nc v c b rv rc z_is value code is =
    (λ i. place_from ((value ∙ ap (λ n. if m == n then nv else v) z_is) i) ((code ∙ ap (λ n. if m == n then nc else c) z_is) i))
    ∙ place-marked m nv nc v c b is
