-- Demand 3: what counting and writing the list answer under an older image and under a newer one. Assumes nothing.
use Prim.Native.Nat.{ℕ, ◌+◌, ◌*◌}
use mathlib.Core.Path.{◌≡◌, refl, sym, ap, subst, ◌∙◌}
use mathlib.Core.Bool.{true}
use mathlib.Core.List.{List, [], ◌∷◌}
use mathlib.Core.Logic.{◌⊎◌, inl, inr, ⊎_map}
use mathlib.Core.Option.{Option, none, some}
use lib.ListN.{length, drop}
use lib.Seq.{drop-drop, take_at}
use Rattle.lists.specs.Laid.{laid}
use Rattle.lists.proofs.BoolLaws.{impossible}
use Rattle.refusal.specs.declared.Refusal.{Refusal}
use Rattle.refusal.specs.declared.Refusal.TheVariants.{Characters}
use Rattle.refusal.specs.Outcome.{given, refused}
use Rattle.utf8.specs.Scalar.{is_scalar}
use Rattle.utf8.specs.Head.{sequence}
use Rattle.utf8.specs.Text.{Character, character_of, Encoded, ends, takes}
use Rattle.utf8.proofs.SequenceLaws.{sequence_scalar}
use Rattle.utf8.proofs.EncodedLaws.{encoded_next}
use Rattle.image.specs.Class.{class_named}
use Rattle.image.specs.Check.{medial_of}
use Rattle.image.specs.Accepted.{Accepted}
use Rattle.image.specs.Means.{RefusalMeans}
use Rattle.image.proofs.ImageLaws.{refused_none, means_refusal}
use Rattle.image.proofs.PermittedLaws.{permitted_after, medial_same}
use Rattle.std.specs.Prelude.{Ok}
use Rattle.pair.specs.Means.{all_permitted}
use Rattle.pair.proofs.PairLaws.{permitted_means, means_pair}
use Rattle.grammar.specs.All.{All}
use Rattle.grammar.specs.Scan.{Tok}
use Rattle.grammar.specs.Grammar.{Kind}
use Rattle.grammar.specs.Second.{first_refused}
use Rattle.grammar.specs.Beside.{other}
use Rattle.grammar.specs.Record.{record_size, room_of, listed_words}
use Rattle.grammar.specs.Reading.{meaning_of, count_of, list_of, list_words}
use Rattle.grammar.proofs.RecordLaws.{length_listed}
use Rattle.grammar.proofs.BesideLaws.{place_of, beside_second}
use Rattle.grammar.specs.Before.{of_image, too_long, allowed as may_read}
use Rattle.demands.specs.Demand2.{Divided, Stopped, FirstMark, NoMark}
use Rattle.demands.specs.Means.{Refuses, refused_before, ill_formed, no_token, mark, CountMeans, counts, count_refuses, ListMeans, lists, no_room, list_refuses}
use Rattle.demands.specs.Firm.{Allowed, Firm, Changed, Touched}
use Rattle.demands.specs.Demand3.{Later, SaysYes, StandsAt, AnotherClass, NextChanged, Excepted, Promise, list_in, Demand3}
use Rattle.demands.proofs.Stability.{firm_or_touched, division_stable, refused_stable}
use Rattle.demands.proofs.DividedLaws.{divided_unique, left_encoded, own_division}
use Rattle.demands.proofs.MarkedLaws.{Marked, marks, marked_some, marked_none}
use Rattle.demands.proofs.MeansLaws.{refuses_stopped, count_means, means_count, list_means, means_list, list_written}

stands : {s rest : List ℕ} {c : Character} {r : List Character} → Encoded s (c ∷ r) rest → StandsAt s 0 c.code c.width
stands (takes q r e f d) = sequence q r e f refl refl

no_refusal : {s : List ℕ} {r : Refusal} → Accepted s → RefusalMeans s (some r) → ⊥
no_refusal {s} {r} a m =
    let e = refused_none s a in
    let f = means_refusal s (some r) m in
    impossible (cc)

module _ (older newer text : List ℕ) (L : Later older newer) where
  -- each character of a text changes as it may
  allowed : (c : Character) → is_scalar c.code ≡ true → Allowed (meaning_of older) (meaning_of newer) c
  unfolding meaning_of
  allowed c h =
      let x = c.code in
      record { permitted = permitted_after older newer L.profiles x (L.permitted x h); white = refl; medial = medial_same older newer L.profiles x }

  all_allowed : {s rest : List ℕ} {cs : List Character} → Encoded s cs rest → All (Allowed (meaning_of older) (meaning_of newer)) cs
  all_allowed (ends n) = tt
  all_allowed (takes q r e f d) = (allowed (character_of q) (sequence_scalar q f), all_allowed d)

  divided_stable : {ts : List (Tok Character Kind)} {left : List Character} → Firm (meaning_of older) (meaning_of newer) left → Divided older text ts left → Divided newer text ts left
  divided_stable g d =
      let h = d.readable in
      record {
        characters = d.characters;
        readable = record { image = L.newer_accepted; short = h.short; well_formed = h.well_formed };
        division = division_stable (meaning_of older) (meaning_of newer) (all_allowed h.well_formed) g d.division;
      }

  -- the local test finds the same mark
  same_mark : {ts : List (Tok Character Kind)} → Divided older text ts [] → place_of (first_refused (meaning_of newer) [] ts) ≡ place_of (first_refused (meaning_of older) [] ts)
  unfolding meaning_of
  same_mark {ts} d =
      sym (beside_second (meaning_of newer) ts (own_division (divided_stable tt d)))
      ∙ refused_stable (meaning_of older) (meaning_of newer) (λ c. medial_same older newer L.profiles c.code) other 0 ts
      ∙ beside_second (meaning_of older) ts (own_division d)

  marks_stable : {ts : List (Tok Character Kind)} (o : Option ℕ) → Divided older text ts [] → place_of (first_refused (meaning_of older) [] ts) ≡ o → Marked newer text o
  marks_stable o d e = subst (Marked newer text) (same_mark d ∙ e) (marks (divided_stable tt d))

  marked : {p : ℕ} → FirstMark older text p → FirstMark newer text p
  marked {p} f = let d = f.mark.divided in marks_stable (some p) d (marked_some _ (marks d) f)

  unmarked : {ts : List (Tok Character Kind)} → Divided older text ts [] → NoMark older text → NoMark newer text
  unmarked d n = marks_stable none d (marked_none _ (marks d) n)

  -- a character of another class after the profile, as a number
  another : (c : Character) (r : List Character) → Changed (meaning_of older) (meaning_of newer) (c ∷ r) → AnotherClass older newer c.code
  unfolding meaning_of
  another c r n e = n (ap class_named e)

  next_changed : (x p : ℕ) (r : List Character) → Encoded (drop p text) r [] → medial_of older x ≡ true → Changed (meaning_of older) (meaning_of newer) r → NextChanged older newer text x p
  next_changed x p (d ∷ r) e m n = record { medial = m; next = d.code; width = d.width; stands = stands e; another = another d r n }
  next_changed x p [] e m n = elim n [ ]

  excepted : (p : ℕ) (c : Character) (r : List Character) → Encoded (drop p text) (c ∷ r) [] → Touched (meaning_of older) (meaning_of newer) (c ∷ r) → Excepted older newer text p
  unfolding meaning_of
  excepted p c r e t = record { character = c.code; width = c.width; stands = stands e; changed = go t }
    where
      go : Touched (meaning_of older) (meaning_of newer) (c ∷ r) → AnotherClass older newer c.code ⊎ NextChanged older newer text c.code (p + c.width)
      go (inl n) = inl (another c r n)
      go (inr (m, n)) = inr (next_changed c.code (p + c.width) r (rw (drop-drop c.width p text) at (encoded_next e)) m n)

  stopped : {p : ℕ} → Stopped older text p → Stopped newer text p ⊎ Excepted older newer text p
  stopped {p} t = go (firm_or_touched (meaning_of older) (meaning_of newer) (t.first ∷ t.others))
    where
      go : Firm (meaning_of older) (meaning_of newer) (t.first ∷ t.others) ⊎ Touched (meaning_of older) (meaning_of newer) (t.first ∷ t.others) →
          Stopped newer text p ⊎ Excepted older newer text p
      go (inl g) = inl (record { tokens = t.tokens; first = t.first; others = t.others; divided = divided_stable g t.divided; place = t.place })
      go (inr n) = inr (excepted p t.first t.others (rw (← t.place) at (left_encoded t.divided)) n)

  -- the refusals, whatever the room
  refused_characters : {p : ℕ} → Refuses older text (Characters p) → Refuses newer text (Characters p) ⊎ Excepted older newer text p
  refused_characters x = ⊎_map no_token (λ x. x) (stopped (refuses_stopped x))

  refused_other : {r : Refusal} → ((p : ℕ) → r ≡ Characters p → ⊥) → Refuses older text r → Refuses newer text r
  refused_other n (refused_before (of_image m)) = absurd (no_refusal L.older_accepted m)
  refused_other n (refused_before (too_long a l)) = refused_before (too_long L.newer_accepted l)
  refused_other n (ill_formed (may_read a l) m) = ill_formed (may_read L.newer_accepted l) m
  refused_other n (no_token {p} t) = absurd (n p refl)
  refused_other n (mark f) = mark (marked f)

  counting : Promise older newer text (count_of older text) (count_of newer text)
  counting =
      record {
        accepted = λ n e. means_count newer text (given n) (accepted (count_means older text (given n) e));
        characters = λ p e. ⊎_map (λ x. means_count newer text _ (count_refuses x)) (λ x. x) (characters (count_means older text _ e));
        others = λ r e n. means_count newer text _ (others n (count_means older text _ e));
      }
    where
      accepted : {n : ℕ} → CountMeans older text (given n) → CountMeans newer text (given n)
      accepted (counts d m n) = counts (divided_stable tt d) (unmarked d m) n

      characters : {p : ℕ} → CountMeans older text (refused (Characters p)) → Refuses newer text (Characters p) ⊎ Excepted older newer text p
      characters (count_refuses x) = refused_characters x

      others : {r : Refusal} → ((p : ℕ) → r ≡ Characters p → ⊥) → CountMeans older text (refused r) → CountMeans newer text (refused r)
      others n (count_refuses x) = count_refuses (refused_other n x)

  module _ (out new_out : List ℕ) (room : room_of (length new_out) ≡ room_of (length out)) where
    writing : Promise older newer text (list_of older text (length out)) (list_of newer text (length new_out))
    writing =
        record {
          accepted = λ n e. means_list newer text (length new_out) (given n) (accepted (list_means older text (length out) (given n) e));
          characters = λ p e. ⊎_map (λ x. means_list newer text (length new_out) _ (list_refuses x)) (λ x. x) (characters (list_means older text (length out) _ e));
          others = λ r e n. means_list newer text (length new_out) _ (others n (list_means older text (length out) _ e));
        }
      where
        accepted : {n : ℕ} → ListMeans older text (length out) (given n) → ListMeans newer text (length new_out) (given n)
        accepted (lists d m n h) = lists (divided_stable tt d) (unmarked d m) n (rw room h)

        characters : {p : ℕ} → ListMeans older text (length out) (refused (Characters p)) → Refuses newer text (Characters p) ⊎ Excepted older newer text p
        characters (list_refuses x) = refused_characters x

        others : {r : Refusal} → ((p : ℕ) → r ≡ Characters p → ⊥) → ListMeans older text (length out) (refused r) → ListMeans newer text (length new_out) (refused r)
        others n (no_room d m k h) = no_room (divided_stable tt d) (unmarked d m) k (rw room h)
        others n (list_refuses x) = list_refuses (refused_other n x)

    -- the front of a buffer into which the tokens were written
    front : (buffer : List ℕ) (ts : List (Tok Character Kind)) (n : ℕ) → length ts ≡ n → list_in n (laid buffer 0 (listed_words text ts)) ≡ listed_words text ts
    front buffer ts n l =
        take_at (listed_words text ts) (drop (0 + length (listed_words text ts)) buffer) (record_size * n) (length_listed text ts ∙ ap (λ (k : ℕ). record_size * k) l)

    same_list_lem : (n : ℕ) → list_of older text (length out) ≡ given n → list_in n (list_words newer text new_out) ≡ list_in n (list_words older text out)
    same_list_lem n e =
        let (ts, d, l, w) = list_written older text out n e in
        let (us, f, k, v) = list_written newer text new_out n (writing.accepted n e) in
        let u = (divided_unique f (divided_stable tt d)).0 in
        ap (list_in n) v ∙ front new_out us n k ∙ ap (listed_words text) u ∙ sym (front out ts n l) ∙ ap (list_in n) (sym w)

pub demand_3 : (older newer : List ℕ) → Later older newer → (text out new_out : List ℕ) → room_of (length new_out) ≡ room_of (length out) → Demand3 older newer text out new_out
demand_3 older newer L text out new_out room =
    record {
      division = λ ts d. divided_stable older newer text L tt d;
      stopped = λ p t. stopped older newer text L t;
      marked = λ p f. marked older newer text L f;
      unmarked = λ ts d n. unmarked older newer text L d n;
      counting = counting older newer text L;
      writing = writing older newer text L out new_out room;
      same_list = same_list_lem older newer text L out new_out room;
    }

-- the pair check says yes exactly where the premise of demand 3 holds
module _ (older newer : List ℕ) where
  pub later_of_pair : SaysYes older newer → Later older newer
  later_of_pair y =
      let (a, b, p, c) = permitted_means older newer y in
      record { older_accepted = a; newer_accepted = b; profiles = p; permitted = c }

  pub pair_of_later : Later older newer → SaysYes older newer
  pair_of_later L = means_pair older newer (Ok tt) (all_permitted L.older_accepted L.newer_accepted L.profiles L.permitted)

  -- then demand 3 holds for every text, whatever its bytes, and any two token buffers with the same room
  pub demand_3_of_pair : SaysYes older newer → (text out new_out : List ℕ) → room_of (length new_out) ≡ room_of (length out) → Demand3 older newer text out new_out
  demand_3_of_pair y = demand_3 older newer (later_of_pair y)
