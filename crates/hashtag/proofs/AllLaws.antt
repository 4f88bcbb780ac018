-- The list of a text's hashtags has them all, each once and rising; no two overlap, and there is no other such list. Assumes nothing.
use Prim.Native.Nat.{ℕ, ◌+◌, ◌≤◌, ◌<◌}
use mathlib.Core.Path.{◌≡◌, refl, sym, ap, ◌∙◌}
use mathlib.Core.Bool.{true}
use mathlib.Core.List.{List, [], ◌∷◌}
use mathlib.Core.Logic.{◌⊎◌, inl, inr}
use native.Mathlib.Omega.{arith}
use Rattle.utf8.specs.Text.{Character, Encoded, ends, takes, decode, width_of}
use Rattle.utf8.proofs.SequenceLaws.{sequence_length}
use Rattle.utf8.proofs.TextLaws.{decode_means}
use Rattle.grammar.specs.All.{All}
use Rattle.hashtag.specs.Find.{Span, run_of, hashtags_from, hashtags_of, HashtagAt, Has, SpansRise, AllHashtags}
use Rattle.hashtag.proofs.FindLaws.{Wide, found_only, found_all, in_of, of_in, rising_from, found_rise}

-- in a list that rises
has_least : (p : ℕ) (ts : List Span) (t : Span) → SpansRise p ts → Has t ts → (p ≤ t.start) × (t.start < t.end)
has_least p (u ∷ ts) t r (inl e) =
    let b = ap (λ (x : Span). x.start) e in
    let f = ap (λ (x : Span). x.end) e in
    (omega (arith, r.0), omega (arith, r.1))
has_least p (u ∷ ts) t r (inr h) = let l = has_least u.end ts t r.2 h in (omega (arith, r.0, r.1, l.0), l.1)
has_least p [] t r h = absurd h

abbrev Apart : Span → Span → Type 0
Apart t u = (t ≡ u) ⊎ ((t.end ≤ u.start) ⊎ (u.end ≤ t.start))

has_apart : (p : ℕ) (ts : List Span) (t u : Span) → SpansRise p ts → Has t ts → Has u ts → Apart t u
has_apart p (x ∷ ts) t u r (inl e) (inl f) = inl (e ∙ sym f)
has_apart p (x ∷ ts) t u r (inl e) (inr k) = let b = ap (λ (x : Span). x.end) e in inr (inl (omega (arith, has_least x.end ts u r.2 k)))
has_apart p (x ∷ ts) t u r (inr h) (inl f) = let b = ap (λ (x : Span). x.end) f in inr (inr (omega (arith, has_least x.end ts t r.2 h)))
has_apart p (x ∷ ts) t u r (inr h) (inr k) = has_apart x.end ts t u r.2 h k
has_apart p [] t u r h k = absurd h

-- two lists that rise and have the same members are the same
same_head : (p q : ℕ) (t u : Span) (ts us : List Span) → SpansRise p (t ∷ ts) → SpansRise q (u ∷ us) → Has t (u ∷ us) → Has u (t ∷ ts) → t ≡ u
same_head p q t u ts us r o (inl e) k = e
same_head p q t u ts us r o (inr h) (inl f) = sym f
same_head p q t u ts us r o (inr h) (inr k) = absurd (omega (arith, has_least u.end us t o.2 h, has_least t.end ts u r.2 k, r.1, o.1))

in_tail : (p q : ℕ) (t u x : Span) (ts us : List Span) → t ≡ u → SpansRise p (t ∷ ts) → Has x ts → Has x (u ∷ us) → Has x us
in_tail p q t u x ts us e r h (inl f) =
    let b = ap (λ (x : Span). x.start) (f ∙ sym e) in
    absurd (omega (arith, has_least t.end ts x r.2 h, r.1))
in_tail p q t u x ts us e r h (inr k) = k

same_members : (p q : ℕ) (ts us : List Span) → SpansRise p ts → SpansRise q us → ((t : Span) → Has t ts → Has t us) → ((t : Span) → Has t us → Has t ts) → ts ≡ us
same_members p q [] [] r o f g = refl
same_members p q [] (u ∷ us) r o f g = absurd (g u (inl refl))
same_members p q (t ∷ ts) [] r o f g = absurd (f t (inl refl))
same_members p q (t ∷ ts) (u ∷ us) r o f g =
    let e = same_head p q t u ts us r o (f t (inl refl)) (g u (inl refl)) in
    let i = same_members t.end u.end ts us r.2 o.2 (λ x h. in_tail p q t u x ts us e r h (f x (inr h))) (λ x h. in_tail q p u t x us ts (sym e) o h (g x (inr h))) in
    (λ j. e j ∷ i j)

-- there is only one list of all hashtags
pub hashtags_unique : (s : List ℕ) (cs : List Character) (ts us : List Span) → AllHashtags s cs ts → AllHashtags s cs us → ts ≡ us
hashtags_unique s cs ts us a b = same_members 0 0 ts us a.rising b.rising (λ t h. b.all t (a.only t h)) (λ t h. a.all t (b.only t h))

-- two hashtags are the same, or one ends before the other begins
pub hashtags_apart : (s : List ℕ) (cs : List Character) (ts : List Span) → AllHashtags s cs ts → (t u : Span) → HashtagAt s cs t → HashtagAt s cs u → Apart t u
hashtags_apart s cs ts a t u h k = has_apart 0 ts t u a.rising (a.all t h) (a.all u k)

-- every character of a text has a byte at least
wide : {u r : List ℕ} {cs : List Character} → Encoded u cs r → All Wide cs
wide (ends n) = tt
wide (takes q r e f k) = ((sequence_length q f).0, wide k)

-- a text's list
module _ (s text : List ℕ) where
  pub hashtags_all : AllHashtags s (decode text).characters (hashtags_of s text)
  unfolding hashtags_of
  hashtags_all =
      let cs = (decode text).characters in
      record {
        only = λ t h. of_in s cs t (found_only s true 0 cs t h);
        all = λ t h. found_all s true 0 cs t (in_of s cs t h);
        rising = rising_from s 0 (0 + width_of (run_of s cs)) (hashtags_from s true 0 cs) (omega arith) (found_rise s true 0 cs (wide (decode_means text)));
      }

  pub all_hashtags : (ts : List Span) → AllHashtags s (decode text).characters ts → hashtags_of s text ≡ ts
  all_hashtags ts a = hashtags_unique s (decode text).characters (hashtags_of s text) ts hashtags_all a
