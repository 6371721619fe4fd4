-- What a change of the entries in order is, seen as a change of the finite map.
use Rattle.std.proofs.Common.{◌≡◌, ℕ, Bool, true, false, cond, not, List, [], Option, Some, None, is_some, IsSome, refl, sym, ap, ◌∙◌}
use Rattle.std.proofs.lemmas.Bool.{true≢false}
use Rattle.std.specs.Cmp.{eq_by_cmp_equiv}
use Rattle.std.specs.FinMap as finite
use Rattle.std.specs.FinMap.Entries.{find, put, is_sorted-put, is_sorted-where_key, find-put, find-where_key}
use Rattle.std.specs.Ordering.{eq_by_cmp}
use Rattle.ssz_versions.specs.Content.{Held, Entries}
use Rattle.ssz_versions.specs.Keys.{Key, key_cmp, key_cmp-total, key_cmp-exact}
use Rattle.ssz_versions.specs.Trees.{without}
use Rattle.ssz_versions.proofs.Ordered.{Row, IsOrdered}

pub put_ordered : (row : Row) (key : Key) (held : Held) → IsOrdered row
    → IsOrdered (put key_cmp key held row)
put_ordered row key held = is_sorted-put key_cmp key_cmp-total key held row

pub without_ordered : (row : Row) (key : Key) → IsOrdered row → IsOrdered (without key row)
without_ordered row key = is_sorted-where_key key_cmp (λ k. not (eq_by_cmp key_cmp key k)) row

turned : {A : Type 0} (b : Bool) (x y : A) → cond (not b) x y ≡ cond b y x
turned true x y = refl
turned false x y = refl

find-without : (row : Row) (key q : Key)
    → find key_cmp q (without key row)
    ≡ cond (eq_by_cmp key_cmp q key) None (find key_cmp q row)
find-without row key q =
    find-where_key key_cmp (λ k. not (eq_by_cmp key_cmp key k)) q
    (λ x tied. ap (λ k. not (eq_by_cmp key_cmp key k)) (sym (key_cmp-exact q x tied))) row
    ∙ turned (eq_by_cmp key_cmp key q) (find key_cmp q row) None
    ∙ ap (λ b. cond b None (find key_cmp q row)) ((eq_by_cmp_equiv key_cmp-total).symm key q)

pub none_of : (found : Option Held) → is_some found ≡ false → found ≡ None
none_of None e = refl
none_of (Some x) e = absurd (true≢false e)

-- the entries in order are those of the content, and the key of a call is that of its clause
pub record Shows (row : Row) (m : Entries) (key q : Key) : Type 0 where
  pub ordered : IsOrdered row
  pub view : finite.from_sorted {R = key_cmp} row ≡ m
  pub same : key ≡ q

pub shows : (row : Row) (m : Entries) {key : Key} {writer : ℕ} {bytes name : List ℕ}
    → IsOrdered row → finite.from_sorted {R = key_cmp} row ≡ m → key ≡ (writer, bytes)
    → bytes ≡ name → Shows row m key (writer, name)
shows row m {key} {writer} ordered view made named = record {
  ordered = ordered;
  view = view;
  same = made ∙ ap (λ text. (writer, text)) named;
}

-- what is found in the entries is what the map has
pub found_is : (row : Row) (m : Entries) → IsOrdered row
    → finite.from_sorted {R = key_cmp} row ≡ m → (q : Key) → find key_cmp q row ≡ finite.get m q
found_is row m ordered view q =
    sym (finite.get-from_sorted key_cmp row q ordered) ∙ ap (λ n. finite.get n q) view

-- no entries make the empty map
pub empty_is : finite.from_sorted {R = key_cmp} [] ≡ finite.empty {X = Held}
empty_is = finite.same_map key_cmp-total key_cmp-exact _ _
    (λ q. finite.get-from_sorted key_cmp [] q tt ∙ sym (finite.get-empty key_cmp q))

module _ {row : Row} {m : Entries} {key q : Key} (shown : Shows row m key q) where
  pub held_there : find key_cmp key row ≡ finite.get m q
  held_there = found_is row m shown.ordered shown.view key ∙ ap (finite.get m) shown.same

  pub some_there : (found : Option Held) → found ≡ find key_cmp key row → is_some found ≡ true
      → IsSome (finite.get m q)
  some_there found is some = ap is_some (sym held_there ∙ sym is) ∙ some

  pub none_there : (found : Option Held) → found ≡ find key_cmp key row → is_some found ≡ false
      → finite.get m q ≡ None
  none_there found is none = sym held_there ∙ sym is ∙ none_of found none

  pub put_there : (held : Held)
      → finite.from_sorted {R = key_cmp} (put key_cmp key held row) ≡ finite.insert m q held
  put_there held =
      finite.same_map key_cmp-total key_cmp-exact _ (finite.insert m key held) (λ p.
      finite.get-from_sorted key_cmp _ p (put_ordered row key held shown.ordered)
      ∙ find-put key_cmp key_cmp-total p key held row
      ∙ ap (cond (eq_by_cmp key_cmp p key) (Some held))
      (found_is row m shown.ordered shown.view p)
      ∙ sym (finite.get-insert key_cmp-total m key held p))
      ∙ ap (λ k. finite.insert m k held) shown.same

  pub removed_there :
      finite.from_sorted {R = key_cmp} (without key row) ≡ finite.remove m q
  removed_there =
      finite.same_map key_cmp-total key_cmp-exact _ (finite.remove m key) (λ p.
      finite.get-from_sorted key_cmp _ p (without_ordered row key shown.ordered)
      ∙ find-without row key p
      ∙ ap (cond (eq_by_cmp key_cmp p key) None) (found_is row m shown.ordered shown.view p)
      ∙ sym (finite.get-remove key_cmp-total m key p))
      ∙ ap (finite.remove m) shown.same
