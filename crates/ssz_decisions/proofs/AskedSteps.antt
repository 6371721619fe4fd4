-- The numbers of the indices that are asked, one by one.
use Rattle.std.proofs.Common.{◌≡◌, ◌<◌, ◌≤◌, ◌+◌, ℕ, List, [], ◌∷◌, ◌++◌, length, drop, get_or, append_assoc, refl, sym, ap, ◌∙◌, Ok, Err}
use Rattle.std.proofs.lemmas.List.{append-nil, at_drop_all, at_drop_more, length_push}
use Rattle.ssz_line.specs.declared.index.Index.{Index}
use Rattle.ssz_schema.specs.Types.{SszType}
use Rattle.ssz_machine.specs.Rules.{Outcome, Refusal, ◌>>=◌}
use Rattle.ssz_machine.specs.Asking.{asked_index, asked_indices}

-- numbers, and then those of the rest
abbrev pub joined : List ℕ → Outcome (List ℕ) → Outcome (List ℕ)
joined numbers (Ok more) = Ok (numbers ++ more)
joined numbers (Err refusal) = Err refusal

pub record AskedSoFar (t : SszType) (indices : List Index) (i : ℕ) (numbers : List ℕ)
    : Type 0 where
  pub rest : asked_indices t indices ≡ joined numbers (asked_indices t (drop i indices))
  pub count : length numbers ≡ i

joined-none : (rest : Outcome (List ℕ)) → rest ≡ joined [] rest
joined-none (Ok more) = refl
joined-none (Err refusal) = refl

joined-more : (numbers : List ℕ) (n : ℕ) (rest : Outcome (List ℕ))
    → joined numbers (rest >>= (λ more. Ok (n ∷ more))) ≡ joined (numbers ++ n ∷ []) rest
joined-more numbers n (Ok more) =
    ap (λ (ns : List ℕ). Ok ns) (sym (append_assoc numbers (n ∷ []) more))
joined-more numbers n (Err refusal) = refl

pub asked-start : (t : SszType) (indices : List Index) → AskedSoFar t indices 0 []
asked-start t indices = record {
  rest = joined-none (asked_indices t indices);
  count = refl;
}

module _ (t : SszType) (indices : List Index) (i : ℕ) (numbers : List ℕ)
    (before : AskedSoFar t indices i numbers) where
  next : (index : Index) → i < length indices → index ≡ get_or indices i index
      → asked_indices t indices
      ≡ joined numbers (asked_index t index
      >>= (λ n. asked_indices t (drop (i + 1) indices) >>= (λ more. Ok (n ∷ more))))
  next index inside is =
      before.rest
      ∙ at_drop_more (λ (rest : List Index). joined numbers (asked_indices t rest)) indices i index
      inside
      ∙ ap (λ (x : Index). joined numbers (asked_index t x
      >>= (λ n. asked_indices t (drop (i + 1) indices) >>= (λ more. Ok (n ∷ more))))) (sym is)

  -- an index with a number
  pub asked-more : (index : Index) (n : ℕ) (new : List ℕ) → i < length indices
      → index ≡ get_or indices i index → Ok n ≡ asked_index t index → new ≡ numbers ++ n ∷ []
      → AskedSoFar t indices (i + 1) new
  asked-more index n new inside is number pushed = record {
    rest = next index inside is
        ∙ ap (λ (o : Outcome ℕ). joined numbers (o
        >>= (λ n. asked_indices t (drop (i + 1) indices) >>= (λ more. Ok (n ∷ more)))))
        (sym number)
        ∙ joined-more numbers n (asked_indices t (drop (i + 1) indices))
        ∙ ap (λ (ns : List ℕ). joined ns (asked_indices t (drop (i + 1) indices))) (sym pushed);
    count = ap length pushed ∙ length_push numbers n ∙ ap (λ (k : ℕ). k + 1) before.count;
  }

  -- an index that is refused
  pub asked-refused : (index : Index) (refusal : Refusal) → i < length indices
      → index ≡ get_or indices i index → Err refusal ≡ asked_index t index
      → Err refusal ≡ asked_indices t indices
  asked-refused index refusal inside is refused =
      sym (next index inside is
      ∙ ap (λ (o : Outcome ℕ). joined numbers (o
      >>= (λ n. asked_indices t (drop (i + 1) indices) >>= (λ more. Ok (n ∷ more)))))
      (sym refused))

  -- after all of them
  pub asked-all : length indices ≤ i → Ok numbers ≡ asked_indices t indices
  asked-all past =
      sym (before.rest
      ∙ at_drop_all (λ (rest : List Index). joined numbers (asked_indices t rest)) indices i past
      ∙ ap (λ (ns : List ℕ). Ok ns) (append-nil numbers))
