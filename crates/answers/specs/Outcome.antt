-- Document 01, "Calls and refusals": a refusal is the number of the first check of a call's table that fails, and "With
-- a refusal all other result numbers are 0": the paper's six numbers of a call's outcome, the
-- status and the five that stand beside it.
use Rattle.std.specs.Prelude.{Bool, cond, List, [], ◌∷◌, ◌⊎◌, ◌≡◌, ℕ, eqb, Float, Result, Ok, Err}
use Rattle.leaves.specs.Constants.{plus_zero}
use Rattle.answers.specs.declared.refusal.Refusal.{Refusal}
use Rattle.answers.specs.declared.refusal.Refusal.TheVariants.{Length, Version, Kind, RingCount, Blocks, Coedges, Numbers as SheetNumbers, Phase, Room, Images, WideBand, Narrow, OpenJoin, NoneClear, TooClose, Argument, Sides, Gap, NoInterior, Corners, NoneServes, Heights, MiddleUnclear, NotFinite}

-- ---- the first check that fails

pub record Check : Type 0 where
  pub number : ℕ
  pub fails : Bool

abbrev pub check : ℕ → Bool → Check
check n b = record { number = n; fails = b }

-- 0 where none fails
unfoldable pub first : List Check → ℕ
first [] = 0
first (c ∷ cs) = cond c.fails c.number (first cs)

-- ---- the code's refusals (src/refusal.rt), and what a call settles on

unfoldable pub number_of : Refusal → ℕ
number_of Length = 1
number_of Version = 2
number_of Kind = 3
number_of RingCount = 4
number_of Blocks = 5
number_of Coedges = 6
number_of SheetNumbers = 7
number_of Phase = 8
number_of Room = 9
number_of Images = 10
number_of WideBand = 11
number_of Narrow = 12
number_of OpenJoin = 13
number_of NoneClear = 14
number_of TooClose = 15
number_of Argument = 16
number_of Sides = 17
number_of Gap = 18
number_of NoInterior = 19
number_of Corners = 20
number_of NoneServes = 21
number_of Heights = 22
number_of MiddleUnclear = 23
number_of NotFinite = 24

-- the number of a refusal; 0 where there is none
unfoldable pub status_of : {A : Type 0} → Result A Refusal → ℕ
unfolding number_of
status_of (Ok x) = 0
status_of (Err r) = number_of r

-- the same outcome, a refusal by its number
unfoldable pub numbered : {A : Type 0} → Result A Refusal → Result A ℕ
unfolding number_of
numbered (Ok x) = Ok x
numbered (Err r) = Err (number_of r)

-- x where no check fails, else the number of the first that does
unfoldable pub settle : {A : Type 0} → ℕ → A → Result A ℕ
settle refusal x = cond (eqb refusal 0) (Ok x) (Err refusal)

-- ---- the six numbers

pub record Numbers : Type 0 where
  pub status : ℕ
  pub x : Float
  pub y : Float
  pub z : Float
  pub clearance : Float
  pub count : ℕ

abbrev pub refused : ℕ → Numbers
refused n = record { status = n; x = plus_zero; y = plus_zero; z = plus_zero; clearance = plus_zero; count = 0 }

-- the answer's numbers where no check fails, else those of the first that does
unfoldable pub settled : ℕ → Numbers → Numbers
settled refusal numbers = cond (eqb refusal 0) numbers (refused refusal)

-- a status is one of these
abbrev pub OneOf : List ℕ → ℕ → Type 0
OneOf [] n = ⊥
OneOf (m ∷ ms) n = (n ≡ m) ⊎ OneOf ms n
