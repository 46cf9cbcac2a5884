-- The header of a listed capture: 32 bytes are one header, or break a rule at one place, and never both.
use Rattle.std.proofs.Common.{◌≡◌, ◌∙◌, inl, inr, ℕ, ◌+◌, ◌<◌, ◌&&◌, nat_lt, Bool, true, false, List, length, slice_index, Some, None, refl, ap, sym, subst, arith}
use Rattle.std.specs.List.{list_all, range_with_len}
use Rattle.std.proofs.lemmas.Bool.{cases_lt, lt-ltb}
use Rattle.std.proofs.lemmas.List.FromFn.{get_or-range_with_len, length-range_with_len}
use Rattle.std.proofs.lemmas.List.Sums.{AllPass-from_list_all}
use Rattle.dvd_capture.specs.Header.{IsFirstWrongByte, header_bytes, may_be_there}
use Rattle.dvd_capture.specs.Laws.{StateTheSame}
use Rattle.dvd_capture.specs.declared.header.Header.{Header}
use Rattle.dvd_capture.proofs.Headers.{headers_differ}
use Rattle.dvd_layout.specs.declared.layout.Shape.{Shape}
use Rattle.dvd_layout.specs.declared.layout.Shape.TheVariants.{Single, Parallel, Opposite}
use Rattle.dvd_layout.specs.declared.layout.Zones.{Zones}
use Rattle.dvd_layout.specs.declared.layout.Zones.TheVariants.{DataOnly, All as AllZones}
use Rattle.dvd_words.specs.Settings.{broken_rule}
use Rattle.dvd_words.specs.declared.settings.Settings.{Settings}
use Rattle.dvd_commands.specs.Opening.{BreaksHeader, IsHeaderOf, fault_byte, shape_number, zones_number}

-- a header has 32 bytes
pub length-header : (header : Header) → length (header_bytes header) ≡ 32
unfolding header_bytes
length-header header = refl

-- each of its bytes is allowed at its place
all-allowed : (header : Header) → list_all (λ k. may_be_there k (slice_index (header_bytes header) k)) (range_with_len 0 32) ≡ true
unfolding header_bytes may_be_there
all-allowed header =
    ap (λ (b : Bool). b && (nat_lt header.zones 2 && true)) (lt-ltb header.shape 3 header.known_shape)
    ∙ ap (λ (b : Bool). b && true) (lt-ltb header.zones 2 header.known_zones)

-- the same at one place
header-allowed : (header : Header) (place : ℕ) → place < 32 → may_be_there place (slice_index (header_bytes header) place) ≡ true
header-allowed header place below =
    let within = subst (λ n. place < n) (sym (length-range_with_len 0 32)) below in
    subst (λ k. may_be_there k (slice_index (header_bytes header) k) ≡ true) (get_or-range_with_len 0 32 place 0 below ∙ (let none : 0 + place ≡ place = omega arith in none))
    (AllPass-from_list_all (λ k. may_be_there k (slice_index (header_bytes header) k)) (range_with_len 0 32) (all-allowed header) place 0 within)

-- so no byte of it is wrong
never_wrong : (own : List ℕ) (header : Header) (at : ℕ) → own ≡ header_bytes header → IsFirstWrongByte own at → ⊥
never_wrong own header at is wrong =
    let may = header-allowed header at wrong.within in
    let no : true ≡ false = sym may ∙ ap (λ l. may_be_there at (slice_index l at)) (sym is) ∙ wrong.wrong in cc

-- the first wrong byte is one
first_wrong_once : (own : List ℕ) (a b : ℕ) → IsFirstWrongByte own a → IsFirstWrongByte own b → a ≡ b
first_wrong_once own a b p q = elim (cases_lt a b) [
  | inl lt ↦ absurd (let no : true ≡ false = sym (q.before a lt) ∙ p.wrong in cc)
  | inr le ↦ elim (cases_lt b a) [
    | inl lt ↦ absurd (let no : true ≡ false = sym (p.before b lt) ∙ q.wrong in cc)
    | inr same ↦ omega (arith, le, same)
  ]
]

-- a shape is known by its number
shape_same : (a b : Shape) → shape_number a ≡ shape_number b → a ≡ b
shape_same Single Single is = refl
shape_same Single Parallel is = absurd (omega (arith, is))
shape_same Single Opposite is = absurd (omega (arith, is))
shape_same Parallel Single is = absurd (omega (arith, is))
shape_same Parallel Parallel is = refl
shape_same Parallel Opposite is = absurd (omega (arith, is))
shape_same Opposite Single is = absurd (omega (arith, is))
shape_same Opposite Parallel is = absurd (omega (arith, is))
shape_same Opposite Opposite is = refl

-- and so are the zones
zones_same : (a b : Zones) → zones_number a ≡ zones_number b → a ≡ b
zones_same DataOnly DataOnly is = refl
zones_same DataOnly AllZones is = absurd (omega (arith, is))
zones_same AllZones DataOnly is = absurd (omega (arith, is))
zones_same AllZones AllZones is = refl

-- and the settings that a header states are one
pub stated_once : (settings a b : Settings) (own : List ℕ) → IsHeaderOf settings a own → IsHeaderOf settings b own → a ≡ b
stated_once settings a b own p q =
    let same : StateTheSame p.header q.header = headers_differ p.header q.header p.numbers q.numbers (sym p.bytes ∙ q.bytes) in
    let shape : a.shape ≡ b.shape = shape_same a.shape b.shape (p.states.shape ∙ same.shape ∙ sym q.states.shape) in
    let zones : a.zones ≡ b.zones = zones_same a.zones b.zones (p.states.zones ∙ same.zones ∙ sym q.states.zones) in
    p.states.all
    ∙ (λ i. record settings { shape = shape i; zones = zones i; sectors = same.sectors0 i; sectors1 = same.sectors1 i; initial = same.initial i; tail = same.tail i })
    ∙ sym q.states.all

-- a header has 32 bytes
pub header-size : (settings stated : Settings) (own : List ℕ) → IsHeaderOf settings stated own → length own ≡ 32
header-size settings stated own is = ap length is.bytes ∙ length-header is.header

-- the place at which a rule is broken is one
pub breaks_once : (settings : Settings) (own : List ℕ) (a b : ℕ) → BreaksHeader settings own a → BreaksHeader settings own b → a ≡ b
breaks_once settings own a b p q = elim p [
  | inl wrong ↦ elim q [
    | inl other ↦ first_wrong_once own a b wrong other
    | inr (stated, fault, is, broken, at) ↦ absurd (never_wrong own is.header a is.bytes wrong)
  ]
  | inr (stated, fault, is, broken, at) ↦ elim q [
    | inl other ↦ absurd (never_wrong own is.header b is.bytes other)
    | inr (others, second, so, breaks, place) ↦
        let same : Some fault ≡ Some second = sym broken ∙ ap broken_rule (stated_once settings stated others own is so) ∙ breaks in
        let one : fault ≡ second = cc in
        at ∙ ap fault_byte one ∙ sym place
  ]
]

-- where one is broken no settings are stated that break none
pub breaks_or_states : (settings stated : Settings) (own : List ℕ) (at : ℕ) → BreaksHeader settings own at → IsHeaderOf settings stated own
    → broken_rule stated ≡ None → ⊥
breaks_or_states settings stated own at p is none = elim p [
  | inl wrong ↦ never_wrong own is.header at is.bytes wrong
  | inr (others, fault, so, broken, place) ↦
      (let no : None ≡ Some fault = sym none ∙ ap broken_rule (stated_once settings stated others own is so) ∙ broken in cc)
]
