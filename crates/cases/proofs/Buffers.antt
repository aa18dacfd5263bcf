-- Laws about reads into the parts of a buffer.
use Rattle.std.proofs.Common.{◌≡◌, ℕ, ◌+◌, ◌≤◌, List, [], ◌++◌, Option, Some, None, Result, Ok, Err, refl, ap, ◌∙◌, length, take, drop, sym, subst, le_refl, drop_at, take-append-drop, length-take-le, length-drop, arith, append-nil}
use Rattle.std.specs.Io.KnownBytes.{Consumes, Keeps}
use Rattle.std.proofs.KnownBytes.{Consumes-trans, Consumes-kept}
use Rattle.std.proofs.lemmas.List.{drop_all}
use Rattle.std.proofs.lemmas.Slice.{take-put_mid_below}
use lib.Seq.{take-add, take-append-le, take_all, drop-drop}
use borrow.Rule.Slice.PartMut.{mid_of, put_mid, post_of, put_same}
use Rattle.std.proofs.lemmas.Grind.{common_steps}
use Rattle.buffer.specs.Page.{laid}
use Rattle.cases.specs.Reading.{Given, unless}
use Rattle.std.specs.declared.io.Error.{Error}
use Rattle.std.specs.Result.{IsErrAnd}

-- m bytes are read behind the first n of the buffer
pub read_more : (a b c : Option (List ℕ)) (n m k : ℕ) (buffer part : List ℕ) → n ≤ length buffer → m ≤ length part → Consumes a b (take n buffer) → Consumes b c (take m part) → Consumes a c (take (n + m) (put_mid n k buffer part))
read_more a b c n m k buffer part h l p q =
    let e : take (n + m) (put_mid n k buffer part) ≡ take n buffer ++ take m part =
    rw (take-add, take-put_mid_below n k buffer part n (le_refl n) h, drop_at (take n buffer) (part ++ post_of n k buffer) n (length-take-le n buffer h), take-append-le m part (post_of n k buffer) l)
    in subst (Consumes a c) (sym e) (Consumes-trans a b c _ _ p q)

-- and the bytes behind those are as they were
pub rest_kept : (n m k : ℕ) (old buffer part : List ℕ) → n ≤ length buffer → m ≤ length part → length buffer ≤ n + k → drop n buffer ≡ drop n old → drop m part ≡ drop m (mid_of n k buffer) → drop (n + m) (put_mid n k buffer part) ≡ drop (n + m) old
rest_kept n m k old buffer part h l r p q =
    let none : drop k (drop n buffer) ≡ [] = drop_all k (drop n buffer) (omega (arith, length-drop n buffer)) in
    let whole : mid_of n k buffer ≡ drop n buffer = take_all k (drop n buffer) (omega (arith, length-drop n buffer)) in
    let behind : drop n (put_mid n k buffer part) ≡ part = rw (drop_at (take n buffer) (part ++ post_of n k buffer) n (length-take-le n buffer h), none) (append-nil part) in
    rw (sym (drop-drop m n (put_mid n k buffer part)), behind, q, whole, p) (drop-drop m n old)

-- ---- bytes laid at a buffer's start

pub laid_first : (bytes buffer : List ℕ) → length bytes ≤ length buffer → laid 0 bytes buffer ≡ bytes ++ drop (length bytes) buffer
unfolding laid
laid_first bytes buffer h = grind (arith, common_steps)

few : (n : ℕ) (old buffer : List ℕ) → n ≤ length buffer → n ≤ length old → length (take n buffer) ≤ length old
few n old buffer h l = rw (length-take-le n buffer h) l

-- a buffer of which the first n bytes were read
laid_by : (n : ℕ) (old buffer : List ℕ) → n ≤ length buffer → n ≤ length old → drop n buffer ≡ drop n old → buffer ≡ laid 0 (take n buffer) old
laid_by n old buffer h l e = rw (laid_first (take n buffer) old (few n old buffer h l), length-take-le n buffer h, sym e) (sym (take-append-drop n buffer))

-- a part that came back as it was
unread : (n k : ℕ) (old buffer part : List ℕ) → n ≤ length buffer → n ≤ length old → drop n buffer ≡ drop n old → part ≡ mid_of n k buffer → put_mid n k buffer part ≡ laid 0 (take n buffer) old
unread n k old buffer part h l p q = rw q (put_same n k buffer ∙ laid_by n old buffer h l p)

-- what was given where n bytes were asked was given where m are
abbrev pub given_of : (n m : ℕ) (a b : Option (List ℕ)) → n ≤ m → Given n a b → Given m a b
given_of n m a b h g = record { bytes = g.bytes; fault = g.fault; consumed = g.consumed; at_most = omega (arith, h, g.at_most) }

-- ---- what is told of a buffer of which the first n bytes were read

module _ (a b : Option (List ℕ)) (n : ℕ) (old buffer : List ℕ) (h : n ≤ length buffer) (fits : n ≤ length old) (kept : drop n buffer ≡ drop n old) (read : Consumes a b (take n buffer)) where
  -- where that is all
  pub all_read : (given : Given (length old) a b) × (Ok n ≡ unless (λ e. e) given.fault (Ok (length given.bytes))) × (buffer ≡ laid 0 given.bytes old)
  unfolding unless
  all_read = (record { bytes = take n buffer; fault = None; consumed = read; at_most = few n old buffer h fits }, ap Ok (sym (length-take-le n buffer h)), laid_by n old buffer h fits kept)

  module _ (c : Option (List ℕ)) (k : ℕ) (part : List ℕ) where
    -- where the file then has no more
    pub none_more : (m : ℕ) → m ≡ 0 → drop m part ≡ drop m (mid_of n k buffer) → Consumes b c (take m part)
        → (given : Given (length old) a c) × (Ok n ≡ unless (λ e. e) given.fault (Ok (length given.bytes))) × (put_mid n k buffer part ≡ laid 0 given.bytes old)
    unfolding unless
    none_more m z p q =
        let same : part ≡ mid_of n k buffer = subst (λ i. drop i part ≡ drop i (mid_of n k buffer)) z p in
        let more : Consumes a c (take n buffer) = subst (Consumes a c) (append-nil (take n buffer)) (Consumes-trans a b c (take n buffer) [] read (subst (λ i. Consumes b c (take i part)) z q)) in
        (record { bytes = take n buffer; fault = None; consumed = more; at_most = few n old buffer h fits }, ap Ok (sym (length-take-le n buffer h)), unread n k old buffer part h fits kept same)

    -- where it then fails
    pub failed : (r : Result ℕ Error) (P : Error → Type 0) → part ≡ mid_of n k buffer → Keeps b c → IsErrAnd r P
        → (given : Given (length old) a c) × (r ≡ unless (λ e. e) given.fault (Ok (length given.bytes))) × (put_mid n k buffer part ≡ laid 0 given.bytes old)
    unfolding unless
    failed (Ok m) P same q e = absurd e
    failed (Err x) P same q e = (record { bytes = take n buffer; fault = Some x; consumed = Consumes-kept a b c _ read q; at_most = few n old buffer h fits }, refl, unread n k old buffer part h fits kept same)
