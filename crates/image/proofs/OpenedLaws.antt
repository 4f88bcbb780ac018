-- What an opened image, and one that isn't, say of the refusal that they stand for. Assumes nothing.
use Prim.Native.Nat.{ℕ}
use mathlib.Core.Path.{◌≡◌, refl, sym, ap, ◌∙◌}
use mathlib.Core.List.{List}
use mathlib.Core.Option.{Option, none, some}
use Rattle.std.specs.Prelude.{Result, Ok, Err}
use Rattle.lists.proofs.BoolLaws.{impossible}
use Rattle.refusal.specs.declared.Refusal.{Refusal}
use Rattle.image.specs.Opened.{opened_by, judgement_of}

module _ (s : List ℕ) (o : Option Refusal) {j : Result (List ℕ) Refusal} (is : j ≡ opened_by s o) where
  pub not_opened : {r : Refusal} → j ≡ Err r → o ≡ some r
  not_opened {r} e = go o (sym is ∙ e)
    where
      go : (o : Option Refusal) → opened_by s o ≡ Err r → o ≡ some r
      go none e = impossible (cc)
      go (some q) e = let f : q ≡ r = cc in ap some f

  pub opened : {t : List ℕ} → j ≡ Ok t → (t ≡ s) × (o ≡ none)
  opened {t} e = go o (sym is ∙ e)
    where
      go : (o : Option Refusal) → opened_by s o ≡ Ok t → (t ≡ s) × (o ≡ none)
      go none e = let f : s ≡ t = cc in (sym f, refl)
      go (some q) e = impossible (cc)

module _ (o : Option Refusal) {j : Result (Unit {0}) Refusal} (is : j ≡ judgement_of o) where
  pub is_refused : {r : Refusal} → j ≡ Err r → o ≡ some r
  is_refused {r} e = go o (sym is ∙ e)
    where
      go : (o : Option Refusal) → judgement_of o ≡ Err r → o ≡ some r
      go none e = impossible (cc)
      go (some q) e = let f : q ≡ r = cc in ap some f

  pub is_accepted : {t : Unit {0}} → j ≡ Ok t → o ≡ none
  is_accepted {t} e = go o (sym is ∙ e)
    where
      go : (o : Option Refusal) → judgement_of o ≡ Ok t → o ≡ none
      go none e = refl
      go (some q) e = impossible (cc)
