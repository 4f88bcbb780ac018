-- Signs and hashtag Continue: no character is both; what the traits of a code point and the first byte of a sequence tell of them.
-- Assumes nothing.
use Prim.Native.Nat.{ℕ, zero, suc, ◌+◌, ◌*◌, ◌/◌, ◌%◌, ◌<◌}
use mathlib.Core.Path.{◌≡◌, refl, sym, ap, ◌∙◌}
use mathlib.Core.Bool.{Bool, true, false, not, ◌&&◌, ◌||◌}
use mathlib.Core.List.{List}
use mathlib.Core.Logic.{◌⊎◌, inl, inr}
use mathlib.Core.Option.{none}
use native.Mathlib.Omega.{arith}
use borrow.Author.Tests.{eqb-true, ne_eqb, le-leb, not-true}
use lib.Dec.{leb, eqb}
use lib.ListN.{length, get_or, drop}
use Rattle.lists.proofs.BoolLaws.{and_left, or_cases}
use Rattle.utf8.specs.declared.Step.{Step}
use Rattle.utf8.specs.declared.Step.TheVariants.{Scalar, IllFormed, End}
use Rattle.utf8.specs.Head.{step_of}
use Rattle.utf8.specs.Lead.{packed}
use Rattle.utf8.proofs.TextLaws.{first_at, step_bounds, first_byte, ascii_at}
use Rattle.line.specs.Line.{is_line_end}
use Rattle.line.proofs.LineLaws.{LineEnd, low, next, separator, no_line_end}
use Rattle.image.specs.Class.{class_named}
use Rattle.image.specs.Check.{refusal_of, class_of, hashtag_of}
use Rattle.character.specs.Traits.{traits_of, part_class}
use Rattle.character.proofs.TraitLaws.{traits_class, traits_hashtag}
use Rattle.grammar.specs.Kinds.{is_continue}
use Rattle.hashtag.specs.Sign.{is_sign, is_hashtag_continue}
use Rattle.hashtag.specs.Seek.{sign_of}

-- a sign is never hashtag Continue
pub no_sign : (s : List ℕ) (x : ℕ) → is_hashtag_continue s x ≡ true → is_sign x ≡ false
unfolding is_hashtag_continue
no_sign s x e = not-true (is_sign x) (and_left (not (is_sign x)) (is_continue (class_named (class_of s x)) || hashtag_of s x) e)

-- by the traits of a code point under an accepted image
abbrev pub continues_by : ℕ → ℕ → Bool
continues_by x t = not (is_sign x) && (is_continue (part_class (t % 8)) || leb 16 t)

pub by_traits : (s : List ℕ) (x t : ℕ) → refusal_of s ≡ none → t ≡ traits_of s x → continues_by x t ≡ is_hashtag_continue s x
unfolding is_hashtag_continue
by_traits s x t a e =
    let c : part_class (t % 8) ≡ class_named (class_of s x) = ap (λ (n : ℕ). part_class (n % 8)) e ∙ traits_class s x a in
    let h : leb 16 t ≡ hashtag_of s x = ap (leb 16) e ∙ traits_hashtag s x a in
    (λ i. not (is_sign x) && (is_continue (c i) || h i))

-- of the class parts only 1 and 2 are Continue
pub class_two : (k : ℕ) → (k ≡ 1 → ⊥) → eqb k 2 ≡ is_continue (part_class k)
class_two zero h = refl
class_two (suc zero) h = absurd (h refl)
class_two (suc (suc zero)) h = refl
class_two (suc (suc (suc zero))) h = refl
class_two (suc (suc (suc (suc zero)))) h = refl
class_two (suc (suc (suc (suc (suc zero))))) h = refl
class_two (suc (suc (suc (suc (suc (suc k)))))) h =
    rw (le-leb 6 (suc (suc (suc (suc (suc (suc k)))))) (omega arith)) (ne_eqb (suc (suc (suc (suc (suc (suc k)))))) 2 (λ e. absurd (omega arith)))

-- the first byte of a sign's sequence
pub sign_here : (text : List ℕ) (at : ℕ) → at < length text → get_or text at 0 ≡ 0x23 → true ≡ sign_of (step_of (drop at text))
unfolding is_sign
sign_here text at h e = rw (ascii_at text at h (omega arith), e)

one_of : (x : ℕ) → is_sign x ≡ true → (x ≡ 0x23) ⊎ ((x ≡ 0xFE5F) ⊎ (x ≡ 0xFF03))
unfolding is_sign
one_of x e = first (or_cases (eqb x 0x23) (eqb x 0xFE5F || eqb x 0xFF03) e)
  where
    other : (eqb x 0xFE5F ≡ true) ⊎ (eqb x 0xFF03 ≡ true) → (x ≡ 0x23) ⊎ ((x ≡ 0xFE5F) ⊎ (x ≡ 0xFF03))
    other (inl f) = inr (inl (eqb-true x 0xFE5F f))
    other (inr f) = inr (inr (eqb-true x 0xFF03 f))

    first : (eqb x 0x23 ≡ true) ⊎ ((eqb x 0xFE5F || eqb x 0xFF03) ≡ true) → (x ≡ 0x23) ⊎ ((x ≡ 0xFE5F) ⊎ (x ≡ 0xFF03))
    first (inl f) = inl (eqb-true x 0x23 f)
    first (inr f) = other (or_cases (eqb x 0xFE5F) (eqb x 0xFF03) f)

-- a sign ends no line
pub sign_ends_none : (x : ℕ) → is_sign x ≡ true → is_line_end x ≡ false
sign_ends_none x e = no_line_end x (λ l. none l (one_of x e))
  where
    none : LineEnd x → (x ≡ 0x23) ⊎ ((x ≡ 0xFE5F) ⊎ (x ≡ 0xFF03)) → ⊥
    none (low h l) (inl f) = omega arith
    none (low h l) (inr (inl f)) = omega arith
    none (low h l) (inr (inr f)) = omega arith
    none (next h) (inl f) = omega arith
    none (next h) (inr (inl f)) = omega arith
    none (next h) (inr (inr f)) = omega arith
    none (separator h l) (inl f) = omega arith
    none (separator h l) (inr (inl f)) = omega arith
    none (separator h l) (inr (inr f)) = omega arith

pub no_sign_here : (text : List ℕ) (at : ℕ) → (get_or text at 0 ≡ 0x23 → ⊥) → (get_or text at 0 ≡ 0xEF → ⊥) → false ≡ sign_of (step_of (drop at text))
no_sign_here text at h k = sym (go (step_of (drop at text)) refl)
  where
    none : (x n : ℕ) → step_of (drop at text) ≡ Scalar x n → (x ≡ 0x23) ⊎ ((x ≡ 0xFE5F) ⊎ (x ≡ 0xFF03)) → ⊥
    none x n e (inl f) = h (sym (first_at text at) ∙ (first_byte (drop at text) x n e).ascii (omega arith) ∙ f)
    none x n e (inr (inl f)) = k (omega (arith, (first_at text at), (first_byte (drop at text) x n e).three (omega arith) (omega arith)))
    none x n e (inr (inr f)) = k (omega (arith, (first_at text at), (first_byte (drop at text) x n e).three (omega arith) (omega arith)))

    by : (x n : ℕ) → step_of (drop at text) ≡ Scalar x n → (b : Bool) → is_sign x ≡ b → b ≡ false
    by x n e true f = absurd (none x n e (one_of x f))
    by x n e false f = refl

    go : (t : Step) → step_of (drop at text) ≡ t → sign_of t ≡ false
    go (Scalar x n) e = by x n e (is_sign x) refl
    go (IllFormed n) e = refl
    go End e = refl

zero_no : is_sign 0 ≡ false
unfolding is_sign
zero_no = refl

pub sign_unpacked : (u : List ℕ) (d : ℕ) → d ≡ packed (step_of u) → is_sign (d / 8) ≡ sign_of (step_of u)
sign_unpacked u d e = ap (λ (n : ℕ). is_sign (n / 8)) e ∙ go (step_of u) refl
  where
    go : (t : Step) → step_of u ≡ t → is_sign (packed t / 8) ≡ sign_of t
    go (Scalar x n) e = let c : (x * 8 + n) / 8 ≡ x = omega (arith, (step_bounds u x n e).short) in ap is_sign c
    go (IllFormed n) e = zero_no
    go End e = zero_no
