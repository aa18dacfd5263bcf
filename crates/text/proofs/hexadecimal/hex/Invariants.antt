use Rattle.std.proofs.Common.{◌≡◌, ◌++◌, length, drop}
use Rattle.text.specs.Digits.{digits}
use Rattle.text.proofs.hexadecimal.hex.Given as goal

-- the first i digits of the rest, and then the text from i on, are the digits of n
abbrev pub invariant-loop-i : goal.invariant-loop-i
invariant-loop-i l = record { places : length l.text ≡ 16; written : digits l.i l.rest ++ drop l.i l.text ≡ digits 16 l.n }
