-- The values of options: what a text means, if it has the form.
use Rattle.std.specs.Prelude.{ℕ, ◌^◌, ◌&&◌, nat_le, nat_lt, Bool, if◌then◌else◌, List, ◌∷◌, length, codes, Option, Some, None, option_map, option_and_then}
use Rattle.std.specs.Char.{is_digit}
use Rattle.std.specs.Int.{from_be_bytes, w32}
use Rattle.std.specs.List.{list_all}
use Rattle.std.specs.Result.{result_ok}
use Rattle.std.specs.Str.{bytes_eq}
use Rattle.std.specs.Str.Parse.{digits_value}
use Rattle.hex.specs.Hex.{decode_sized}
use Rattle.dvd_capture.specs.declared.form.Form.{Form}
use Rattle.dvd_capture.specs.declared.form.Form.TheVariants.{Plain, Marked, Listed}
use Rattle.dvd_layout.specs.declared.layout.Shape.{Shape}
use Rattle.dvd_layout.specs.declared.layout.Shape.TheVariants.{Single, Parallel, Opposite}
use Rattle.dvd_layout.specs.declared.layout.Zones.{Zones}
use Rattle.dvd_layout.specs.declared.layout.Zones.TheVariants.{DataOnly, All}

-- one to ten decimal digits, and no sign
abbrev pub is_numeral : List ℕ → Bool
is_numeral text = nat_le 1 (length text) && (nat_le (length text) 10 && list_all (λ c. is_digit c 10) text)

-- a number below 2 ^ 32
abbrev pub number_in : List ℕ → Option ℕ
number_in text = if is_numeral text && nat_lt (digits_value 10 text) (2 ^ 32) then Some (digits_value 10 text) else None

-- a number from `least` to `most`
abbrev pub number_within : ℕ → ℕ → List ℕ → Option ℕ
number_within least most text = option_and_then (λ n. if nat_le least n && nat_le n most then Some n else None) (number_in text)

-- this number of bytes, each of two hexadecimal digits of either case
abbrev pub hex_bytes : ℕ → List ℕ → Option (List ℕ)
hex_bytes n text = result_ok (decode_sized text n)

-- a sector number: six hexadecimal digits
abbrev pub sector_number_of : List ℕ → Option ℕ
sector_number_of text = option_map (λ bytes. from_be_bytes w32 (0 ∷ bytes)) (hex_bytes 3 text)

-- the shape of a disk by its name
abbrev pub shape_of : List ℕ → Option Shape
shape_of text =
    if bytes_eq text (codes "single") then Some Single
    else (if bytes_eq text (codes "parallel") then Some Parallel else (if bytes_eq text (codes "opposite") then Some Opposite else None))

-- the zones of a stream by their name
abbrev pub zones_of : List ℕ → Option Zones
zones_of text = if bytes_eq text (codes "data") then Some DataOnly else (if bytes_eq text (codes "all") then Some All else None)

-- the form of captured blocks by its name
abbrev pub form_of : List ℕ → Option Form
form_of text =
    if bytes_eq text (codes "plain") then Some Plain
    else (if bytes_eq text (codes "marked") then Some Marked else (if bytes_eq text (codes "listed") then Some Listed else None))
