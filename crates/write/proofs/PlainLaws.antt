-- Where line ends are plain, no token but those of line ends holds one. Assumes nothing.
use Prim.Native.Nat.{ℕ, ◌+◌, ◌-◌, ◌/◌, ◌%◌, ◌≤◌, ◌<◌}
use mathlib.Core.Path.{◌≡◌, refl, sym, ap, subst, ◌∙◌}
use mathlib.Core.Bool.{Bool, true, false, cond, true≢false}
use mathlib.Core.List.{List, [], ◌∷◌, ◌++◌}
use mathlib.Core.Logic.{inl, inr}
use mathlib.Core.Option.{none}
use native.Mathlib.Nat.{zero-add}
use native.Mathlib.Decide.{dec_lt}
use native.Mathlib.Omega.{arith}
use lib.Dec.{leb, eqb}
use lib.ListN.{length, take, drop, get_or, length-take, length-drop}
use Rattle.std.proofs.lemmas.List.{get_or-take, get_or-drop}
use borrow.Author.Tests.{eqb-true, eqb-false}
use Rattle.lists.specs.Filled.{Filled}
use Rattle.utf8.specs.Text.{Character}
use Rattle.line.specs.Line.{is_line_end, LineAt}
use Rattle.line.proofs.LineLaws.{LineEnd, low, next, separator, no_line_end}
use Rattle.image.specs.Class.{Class, Unassigned, Start, Nonstart, Syntax, White, Other}
use Rattle.image.specs.Check.{refusal_of}
use Rattle.character.specs.Traits.{token_traits, part_class}
use Rattle.character.proofs.TraitLaws.{token_class, token_medial}
use Rattle.grammar.specs.All.{All}
use Rattle.grammar.specs.Scan.{Tok}
use Rattle.grammar.specs.White.{WhiteKind, blank, line_end, mark, is_mark, white_of}
use Rattle.grammar.specs.Grammar.{Kind, identifier, syntax, whitespace, IsContinue, IsWhite, Groups, no_group, group, Token}
use Rattle.grammar.specs.Kinds.{kind_number}
use Rattle.grammar.specs.Reading.{meaning_of}
use Rattle.grammar.proofs.DivisionLaws.{division_tokens}
use Rattle.turns.specs.Turns.{after_of}
use Rattle.turns.specs.Starts.{StartOf}
use Rattle.write.specs.Records.{Apart, Plain, place_after}
use Rattle.write.proofs.SpanLaws.{line_stays}
use Rattle.write.proofs.StartLaws.{divided, units_here}

all_append : {A : Type 0} (P : A → Type 0) (u v : List A) → All P u → All P v → All P (u ++ v)
all_append P [] v a b = b
all_append P (c ∷ u) v a b = (a.0, all_append P u v a.1 b)

all_maps : {A : Type 0} (P Q : A → Type 0) → ((c : A) → P c → Q c) → (u : List A) → All P u → All Q u
all_maps P Q f [] a = tt
all_maps P Q f (c ∷ u) a = (f c a.0, all_maps P Q f u a.1)

all_at : {A : Type 0} (P : A → Type 0) (u v : List A) (c : A) → All P (u ++ c ∷ v) → P c
all_at P [] v c a = a.0
all_at P (d ∷ u) v c a = all_at P u v c a.1

-- the classes of what begins no token and goes on with none, and White
abbrev Idle : Class → Type 0
Idle Unassigned = Unit {0}
Idle Start = ⊥
Idle Nonstart = ⊥
Idle Syntax = ⊥
Idle White = Unit {0}
Idle Other = Unit {0}

apart_class : (t : ℕ) → Apart t → Idle (part_class (t % 8))
apart_class t (inl e) = subst (λ (n : ℕ). Idle (part_class (n % 8))) (sym e) tt
apart_class t (inr (inl e)) = subst (λ (n : ℕ). Idle (part_class (n % 8))) (sym e) tt
apart_class t (inr (inr e)) = subst (λ (n : ℕ). Idle (part_class (n % 8))) (sym e) tt

apart_medial : (t : ℕ) → Apart t → leb 8 t ≡ false
apart_medial t (inl e) = ap (leb 8) e
apart_medial t (inr (inl e)) = ap (leb 8) e
apart_medial t (inr (inr e)) = ap (leb 8) e

abbrev NoEnd : Character → Type 0
NoEnd c = is_line_end c.code ≡ false

unless_end : (x : ℕ) → (is_line_end x ≡ true → ⊥) → is_line_end x ≡ false
unless_end x n = go (is_line_end x) refl
  where
    go : (b : Bool) → is_line_end x ≡ b → is_line_end x ≡ false
    go true e = absurd (n e)
    go false e = e

module _ (s : List ℕ) (ok : refusal_of s ≡ none) (p : Plain s) where
  by_class : (c : Character) (a : Class) → (meaning_of s).class c ≡ a → (Idle a → ⊥) → NoEnd c
  unfolding meaning_of
  by_class c a e n =
      unless_end c.code (λ f. n (subst Idle (token_class s c.code ok ∙ e) (apart_class (token_traits s c.code) (p c.code f))))

  by_continue : (c : Character) → IsContinue (meaning_of s) c → NoEnd c
  by_continue c (inl e) = by_class c Start e (λ z. z)
  by_continue c (inr e) = by_class c Nonstart e (λ z. z)

  by_medial : (c : Character) → (meaning_of s).medial c ≡ true → NoEnd c
  unfolding meaning_of
  by_medial c e =
      unless_end c.code (λ f. true≢false (sym e ∙ sym (token_medial s c.code ok) ∙ apart_medial (token_traits s c.code) (p c.code f)))

  by_white : (w : WhiteKind) → (w ≡ line_end → ⊥) → (c : Character) → IsWhite (meaning_of s) w c → NoEnd c
  unfolding meaning_of white_of
  by_white w n c h = unless_end c.code (λ f. n (sym h.1 ∙ ap (λ (b : Bool). cond b line_end (cond (is_mark c.code) mark blank)) f))

  in_groups : (u : List Character) → Groups (meaning_of s) u → All NoEnd u
  in_groups _ no_group = tt
  in_groups _ (group {d = d} {c = c} cs {gs = gs} m h a g) =
      (by_medial d m, (by_continue c h, all_append NoEnd cs gs (all_maps (IsContinue (meaning_of s)) NoEnd by_continue cs a) (in_groups gs g)))

  in_token : (k : Kind) (u : List Character) → Token (meaning_of s) k u → (kind_number k ≡ 4 → ⊥) → All NoEnd u
  in_token identifier u t n =
      subst (All NoEnd) (sym t.whole)
      (by_class t.first Start t.start (λ z. z), all_append NoEnd t.plain t.groups (all_maps (IsContinue (meaning_of s)) NoEnd by_continue t.plain t.continued) (in_groups t.groups t.grouped))
  in_token syntax u t n = subst (All NoEnd) (sym t.whole) (by_class t.only Syntax t.class (λ z. z), tt)
  in_token (whitespace w) u t n =
      subst (All NoEnd) (sym t.whole) (all_maps (IsWhite (meaning_of s) w) NoEnd (by_white w (λ e. n (ap (λ (v : WhiteKind). kind_number (whitespace v)) e))) (t.first ∷ t.others) t.white)

  -- the line stays past a token of another kind
  pub line_past : {text : List ℕ} {k c line end : ℕ} → StartOf s text k c → end ≡ place_after s text (k + 1) → (after_of (c % 16) ≡ 4 → ⊥) →
      LineAt text (c / 16) line → LineAt text end line
  line_past {text} {line = line} h e n i =
      let t = h.token in
      let T : Tok Character Kind → Type 0 = λ (t : Tok Character Kind). Token (meaning_of s) t.kind t.units in
      let a = all_at T h.front h.back t (subst (All T) h.parted (division_tokens (Token (meaning_of s)) (divided s text))) in
      subst (λ (j : ℕ). LineAt text j line) (sym (units_here h e).1)
      (line_stays i t.units _ (units_here h e).0 (in_token t.kind t.units a (λ z. n (h.kind ∙ z))))

-- the line ends one by one
module _ (P : ℕ → Type 0) (early : (x : ℕ) → 0x0A ≤ x → x ≤ 0x0D → P x) (after : P 0x85) (line : P 0x2028) (paragraph : P 0x2029) where
  pub each_end : (x : ℕ) → is_line_end x ≡ true → P x
  each_end x e = go (dec_lt x 0x0A) (dec_lt 0x0D x)
    where
      others : ((0x0A ≤ x) → (x ≤ 0x0D) → ⊥) → (a b c : Bool) → eqb x 0x85 ≡ a → eqb x 0x2028 ≡ b → eqb x 0x2029 ≡ c → P x
      others n true b c f g h = subst P (sym (eqb-true x 0x85 f)) after
      others n false true c f g h = subst P (sym (eqb-true x 0x2028 g)) line
      others n false false true f g h = subst P (sym (eqb-true x 0x2029 h)) paragraph
      others n false false false f g h = absurd (true≢false (sym e ∙ no_line_end x none_of))
        where
          none_of : LineEnd x → ⊥
          none_of (low p q) = n p q
          none_of (next q) = eqb-false x 0x85 f q
          none_of (separator p q) = omega (arith, eqb-false x 0x2028 g, eqb-false x 0x2029 h)

      go : Dec (x < 0x0A) → Dec (0x0D < x) → P x
      go (no h) (no l) = early x (omega arith) (omega arith)
      go (yes h) d = others (λ p q. omega arith) (eqb x 0x85) (eqb x 0x2028) (eqb x 0x2029) refl refl refl
      go (no h) (yes l) = others (λ p q. omega arith) (eqb x 0x85) (eqb x 0x2028) (eqb x 0x2029) refl refl refl

-- what a filled part of a table holds
pub filled_apart : (s : List ℕ) (base : ℕ) {size k : ℕ} {t : List ℕ} → Filled size (λ (j : ℕ). 0 + token_traits s (base + j)) t k → (j : ℕ) → j < k →
    Apart (get_or t j 0) → Apart (token_traits s (base + j))
filled_apart s base f j l a = subst Apart (f.each j l ∙ zero-add (token_traits s (base + j))) a

-- the cells of the line ends of ASCII
pub part_apart : (cells : List ℕ) → ((i : ℕ) → i < length (take 4 (drop 10 cells)) → Apart (get_or (take 4 (drop 10 cells)) i 0)) → 14 ≤ length cells →
    (x : ℕ) → 0x0A ≤ x → x ≤ 0x0D → Apart (get_or cells x 0)
part_apart cells h l x a b =
    let z : 10 + (x - 10) ≡ x = omega arith in
    let e : get_or (take 4 (drop 10 cells)) (x - 10) 0 ≡ get_or cells x 0 =
    get_or-take 4 (drop 10 cells) (x - 10) 0 (omega arith) ∙ get_or-drop 10 cells (x - 10) 0 ∙ ap (λ (n : ℕ). get_or cells n 0) z in
    subst Apart e (h (x - 10) (simp (length-take, length-drop) (omega arith)))
