-- Words on lists that the rules use.
use Rattle.std.specs.Prelude.{Bool, cond, List, ◌++◌, ltb, length, drop}
use Rattle.std.specs.List.{list_any}

-- whether the test passes on any of them
abbrev pub any_of : {A : Type 0} → (A → Bool) → List A → Bool
any_of test xs = list_any test xs

-- xs written over the front of ys, whose tail keeps its contents; ys as it is where there is no room
unfoldable pub over : {A : Type 0} → List A → List A → List A
over xs ys = cond (ltb (length ys) (length xs)) ys (xs ++ drop (length xs) ys)
