-- What each iteration of the loop in `Line::put_hexadecimal` keeps.
use Rattle.std.proofs.Common.{◌≡◌, ◌+◌, ◌++◌, length}
use Rattle.dvd_report.specs.Lines.{hexadecimal}
use Rattle.dvd_report.proofs.text.Line.put_hexadecimal.Given as goal

-- the digits at the places that are left complete the line
abbrev pub invariant-loop-place : goal.invariant-loop-place
invariant-loop-place l =
    (l.self ++ hexadecimal l.place l.number ≡ l.fn.self ++ hexadecimal l.width l.number)
    × (length l.self + l.place ≡ length l.fn.self + l.width)
