-- Reading one text after another.
use Rattle.std.proofs.Common.{ℕ, ◌≡◌, List, [], ◌∷◌, ◌++◌, Option, Some, None, refl, sym, ap, ◌∙◌, append_assoc}
use Rattle.ssz_line.specs.Paths.{◌>>=◌, read_all}

-- what was read, and what is read behind it
abbrev pub after_read : {A : Type 0} → List A → Option (List A) → Option (List A)
after_read xs None = None
after_read xs (Some ys) = Some (xs ++ ys)

pub after_read-nothing : {A : Type 0} (read : Option (List A)) → after_read [] read ≡ read
after_read-nothing None = refl
after_read-nothing (Some ys) = refl

joined : {A : Type 0} (xs : List A) (x : A) (rest : Option (List A))
    → after_read xs (rest >>= λ ys. Some (x ∷ ys)) ≡ after_read (xs ++ x ∷ []) rest
joined xs x None = refl
joined xs x (Some ys) = ap Some (sym (append_assoc xs (x ∷ []) ys))

-- one text more is read
pub after_read-next : {A : Type 0} (read : List ℕ → Option A) (xs : List A) (x : A) (text : List ℕ)
    (texts : List (List ℕ))
    → read text ≡ Some x
    → after_read xs (read_all read (text ∷ texts))
    ≡ after_read (xs ++ x ∷ []) (read_all read texts)
after_read-next read xs x text texts h = rw h (joined xs x (read_all read texts))

-- one is not
pub after_read-stop : {A : Type 0} (read : List ℕ → Option A) (xs : List A) (text : List ℕ)
    (texts : List (List ℕ))
    → read text ≡ None → after_read xs (read_all read (text ∷ texts)) ≡ None
after_read-stop read xs text texts h = rw h refl

-- a turn of the loop that reads one text after another
pub after_read-turn : {A : Type 0} (read : List ℕ → Option A) (xs xs' : List A) (x : A)
    (text : List ℕ) (before after : List (List ℕ)) (all : Option (List A))
    → after_read xs (read_all read before) ≡ all → before ≡ text ∷ after → read text ≡ Some x
    → xs' ≡ xs ++ x ∷ []
    → after_read xs' (read_all read after) ≡ all
after_read-turn read xs xs' x text before after all so_far taken found pushed =
    let next = sym (after_read-next read xs x text after found) in
    let same = ap (λ (texts : List (List ℕ)). after_read xs (read_all read texts)) (sym taken) in
    rw pushed (next ∙ same ∙ so_far)
