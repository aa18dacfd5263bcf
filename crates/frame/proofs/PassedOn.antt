-- What the exit of a `?` returns: the error itself, where the types of the two errors are the same.
use mathlib.Core.Path.{◌≡◌, ap, ◌∙◌}
use Rattle.std.specs.Prelude.{Result, Err}
use Rattle.std.specs.Result.{IsErrAnd}
use Rattle.std.proofs.lemmas.Result.{err_from_is_err_and}

pub passed_on : {T E : Type 0} {r : Result T E} {error : E} → IsErrAnd r (λ (e : E). e ≡ error) → r ≡ Err error
passed_on {r = r} h =
    let (e, is, same) = err_from_is_err_and r h in
    is ∙ ap Err same
