-- What is written of a physical format is read back.
use Rattle.std.proofs.Common.{◌≡◌, ap, ℕ, ◌+◌, ◌*◌, ◌/◌, ◌%◌, ◌<◌, ◌^◌, Bool, true, false, cond, nat_eq, refl, arith, None}
use Rattle.std.proofs.lemmas.Bool.Decides.{nat_tests}
use Rattle.dvd_control.specs.declared.format.PhysicalFormat.{PhysicalFormat}
use Rattle.dvd_control.specs.Format.{fields_of, fields_in, format_bytes, control_fault}

-- byte 2: layers, track path and kind
abbrev byte_2 : Bool → Bool → ℕ → ℕ
byte_2 two_layers opposite kind = cond two_layers 32 0 + cond opposite 16 0 + kind

-- a number that is 1 passes the test for 1
is_one : (n : ℕ) → n ≡ 1 → nat_eq n 1 ≡ true
is_one n is = ap (λ m. nat_eq m 1) is

-- and 0 doesn't
is_not_one : (n : ℕ) → n ≡ 0 → nat_eq n 1 ≡ false
is_not_one n is = ap (λ m. nat_eq m 1) is

-- bits 5 and 6 of byte 2 say whether there are two layers
layers-back : (two_layers opposite : Bool) (kind : ℕ) → kind < 16 → nat_eq (byte_2 two_layers opposite kind / 32 % 4) 1 ≡ two_layers
layers-back true true kind small = is_one _ (omega arith)
layers-back true false kind small = is_one _ (omega arith)
layers-back false true kind small = is_not_one _ (omega arith)
layers-back false false kind small = is_not_one _ (omega arith)

-- these bits are 0 or 1
layers-few : (two_layers opposite : Bool) (kind : ℕ) → kind < 16 → byte_2 two_layers opposite kind / 32 % 4 < 2
layers-few true true kind small = omega arith
layers-few true false kind small = omega arith
layers-few false true kind small = omega arith
layers-few false false kind small = omega arith

-- bit 4 of byte 2 says the track path
path-back : (two_layers opposite : Bool) (kind : ℕ) → kind < 16 → nat_eq (byte_2 two_layers opposite kind / 16 % 2) 1 ≡ opposite
path-back true true kind small = is_one _ (omega arith)
path-back true false kind small = is_not_one _ (omega arith)
path-back false true kind small = is_one _ (omega arith)
path-back false false kind small = is_not_one _ (omega arith)

-- the lowest four bits of byte 2 are the kind
kind-back : (two_layers opposite : Bool) (kind : ℕ) → kind < 16 → byte_2 two_layers opposite kind % 16 ≡ kind
kind-back true true kind small = omega arith
kind-back true false kind small = omega arith
kind-back false true kind small = omega arith
kind-back false false kind small = omega arith

-- the highest bit of its byte says whether there is a BCA
bca-back : (bca : Bool) → nat_eq (cond bca 128 0 / 128) 1 ≡ bca
bca-back true = refl
bca-back false = refl

-- three bytes, the highest first, are the number of 24 bits that they were written for
number-back : (n : ℕ) → n < 2 ^ 24 → 65536 * (n / 65536) + 256 * (n / 256 % 256) + n % 256 ≡ n
number-back n small = omega arith

-- the fields that were written are read back
pub fields-read_back : (format : PhysicalFormat) → fields_in (format_bytes (fields_of format)) ≡ fields_of format
unfolding fields_in format_bytes
fields-read_back format =
    let version : format.version % 16 ≡ format.version = omega arith in
    let rate : format.rate % 16 ≡ format.rate = omega arith in
    let density : (16 * format.density + format.pitch) / 16 ≡ format.density = omega arith in
    let pitch : (16 * format.density + format.pitch) % 16 ≡ format.pitch = omega arith in
    let first = number-back format.first (omega arith) in
    let last = number-back format.last (omega arith) in
    let layer0_last = number-back format.layer0_last (omega arith) in
    let layers = layers-back format.two_layers format.opposite format.kind format.small_kind in
    let path = path-back format.two_layers format.opposite format.kind format.small_kind in
    let kind = kind-back format.two_layers format.opposite format.kind format.small_kind in
    rw (version, rate, layers, path, kind, density, pitch, first, last, layer0_last, bca-back format.bca) refl

-- what is written breaks no rule of control data
pub written-valid : (format : PhysicalFormat) → control_fault (format_bytes (fields_of format)) ≡ None
unfolding control_fault format_bytes
written-valid format =
    let first = number-back format.first (omega arith) in
    let last = number-back format.last (omega arith) in
    let layers = layers-few format.two_layers format.opposite format.kind format.small_kind in
    grind (arith, nat_tests)

-- what is written of a physical format is read back, and breaks no rule
pub ruleset written_laws = (fields-read_back, written-valid)
