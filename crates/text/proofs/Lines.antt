-- Laws about an answer's line: how long it is, and that a page with room for it begins with it.
use Rattle.std.proofs.Common.{◌≡◌, ℕ, zero, suc, ◌^◌, ◌<◌, ◌≤◌, List, length, take, refl, ap, arith, add-one, length-append}
use Rattle.std.proofs.lemmas.Grind.{common_steps}
use Rattle.std.specs.Float.{Float}
use Rattle.buffer.specs.Page.{behind, laid}
use Rattle.buffer.proofs.Pages.{put_first, put_within}
use Rattle.text.specs.Digits.{digits, hexadecimal}
use Rattle.text.specs.Line.{number, point_text, point_line, refusal_line}
use Rattle.text.proofs.Tens.{ten_digits, zero_is}

-- ---- how long

digits_length : (k n : ℕ) → length (digits k n) ≡ k
unfolding digits
digits_length zero n = refl
digits_length (suc k) n = rw (length-append, digits_length k, add-one)

number_length : (x : Float) → length (number x) ≡ 17
unfolding number
number_length x = ap suc (digits_length 16 _)

pub point_text_length : (x y z clearance : Float) (count : ℕ) → count < 2 ^ 32 → length (point_text x y z clearance count) ≤ 80
unfolding point_text
point_text_length x y z clearance count h = simp (length-append, number_length, zero_is) (omega (arith, ten_digits count h))

pub point_line_length : (x y z clearance : Float) (count : ℕ) → count < 2 ^ 32 → length (point_line x y z clearance count) ≤ 81
unfolding point_line
point_line_length x y z clearance count h = rw length-append (omega (arith, point_text_length x y z clearance count h))

pub refusal_line_length : (n : ℕ) → n < 2 ^ 32 → length (refusal_line n) ≤ 11
unfolding refusal_line
refusal_line_length n h = grind (arith, length-append, ten_digits)

-- ---- a page that has room for what is written at its start begins with it

module _ (bytes page : List ℕ) (h : length bytes ≤ length page) where
  pub written_first : length (laid 0 bytes page) ≡ length page → take (behind 0 bytes page) (laid 0 bytes page) ≡ bytes
  written_first k = (put_first bytes page (behind 0 bytes page) (laid 0 bytes page) h k refl refl).1

  pub written_within : length (laid 0 bytes page) ≡ length page → behind 0 bytes page ≤ length (laid 0 bytes page)
  written_within k = put_within 0 bytes page (behind 0 bytes page) (laid 0 bytes page) (omega arith) k refl

-- sixteen digits are a page of sixteen
pub sixteen_digits : (n : ℕ) (page : List ℕ) → length page ≡ 16 → laid 0 (hexadecimal n) page ≡ hexadecimal n
unfolding laid
sixteen_digits n page h = grind (arith, common_steps, digits_length 16 n)

pub ruleset text_first = (written_first, written_within, point_text_length, point_line_length, refusal_line_length, ten_digits)
