-- Demand 2: an image that was written reads back as what was written, and an accepted image is the only one for its version, ranges
-- and profile. Over the definitions alone. Assumes nothing.
use Prim.Native.Nat.{ℕ, ◌+◌, ◌-◌, ◌*◌, ◌≤◌, ◌<◌}
use mathlib.Core.Path.{◌≡◌, refl, sym, ap, subst, ◌∙◌}
use mathlib.Core.List.{List, [], ◌∷◌, ◌++◌}
use mathlib.Core.Bool.{not}
use mathlib.Core.Option.{Option, none, some}
use native.Mathlib.Omega.{arith}
use lib.ListN.{length, take, drop, get_or, length-drop, take-append-drop, get_or-append}
use lib.Seq.{get_or-append-add, take_at, take_all, drop-drop}
use Rattle.std.specs.Prelude.{Ok}
use Rattle.lists.specs.First.{first_where}
use Rattle.lists.specs.Each.{each, each_from}
use Rattle.lists.specs.Laid.{laid}
use Rattle.lists.proofs.FirstLaws.{first_same}
use Rattle.lists.proofs.EachLaws.{each_at, each_same, length-each}
use Rattle.refusal.specs.declared.Refusal.{Refusal}
use Rattle.image.specs.declared.Range.{Range}
use Rattle.image.specs.declared.Profile.{Profile}
use Rattle.image.specs.declared.Checked.{Checked}
use Rattle.image.specs.Limits.{max_ranges, max_entries, word_bytes, header_bytes, range_bytes, entry_bytes, words_per_range}
use Rattle.image.specs.Word.{AllBytes, AllWords, IsWord, word_at}
use Rattle.image.specs.Header.{version_of, range_count, entry_count, format, entries_at, image_end}
use Rattle.image.specs.Ranges.{range_at, range_in, range_words}
use Rattle.image.specs.Profile.{point_at, role_at, point_in, role_in, good_entry, first_bad_entry, profile_within, profile_of}
use Rattle.image.specs.Good.{GoodRange, GoodEntry}
use Rattle.image.specs.Image.{header_words, entry_words, image_words, bytes_of_all, image_of}
use Rattle.image.specs.Check.{records_refusal, refusal_of, read_of, ranges_of, words_after, accepted_with}
use Rattle.image.specs.Accepted.{Headed}
use Rattle.image.specs.Means.{is_read}
use Rattle.image.proofs.GoodLaws.{good_entry_same, range_same, entry_same}
use Rattle.image.proofs.ImageLaws.{accepted, refused_none, accepted_size, entry_read, zeros_past}
use Rattle.image.proofs.ReadLaws.{means_read}
use Rattle.writer.specs.Writable.{Shaped, Writable, is_written}
use Rattle.image.specs.Same.{SameEntries}
use Rattle.writer.specs.Back.{ReadBack}
use Rattle.writer.specs.Write.{ranges_in, bytes_needed, write_refusal_within, written_by, write_within, write_of, bytes_by, bytes_within, bytes_after}
use Rattle.writer.proofs.WordLaws.{word_is, words_from, bytes_from, bytes_each, all_append}
use Rattle.writer.proofs.PartLaws.{words_of, whole, words_back, image_words_lem, length_words, length_image}
use Rattle.writer.proofs.WriteLaws.{means_write, written_means}

module _
    (version : ℕ) (words : List ℕ) (p : Profile) (w : Writable words p) (hv : IsWord version) (hw : AllWords words) (hp : AllWords p.points)
    (hr : AllWords p.roles)
  where
    abbrev n : ℕ
    n = ranges_in words

    e : Shaped words
    e = w.counted.shaped

    entries : List ℕ
    entries = each (entry_words p) p.used

    numbers : List ℕ
    numbers = header_words version n p.used ++ (words ++ entries)

    abbrev image : List ℕ
    image = image_of version (range_in words) n p

    image_is : image ≡ bytes_of_all numbers
    unfolding image_of numbers entries
    image_is = ap bytes_of_all (image_words_lem version words p e)

    long : length numbers ≡ 8 + words_per_range * n + 2 * p.used
    unfolding numbers entries
    long = ap length (sym (image_words_lem version words p e)) ∙ length_words version words p e

    -- the number at index i of the image's numbers
    number_at : (i v : ℕ) → i < length numbers → get_or numbers i 0 ≡ v → IsWord v → word_at image (word_bytes * i) ≡ v
    number_at i v l g h = ap (λ (s : List ℕ). word_at s (word_bytes * i)) image_is ∙ word_is numbers i v l g h

    few : (n ≤ max_ranges) × (p.used ≤ max_entries)
    few = (w.counted.few_ranges, w.counted.few_entries)

    -- the eight numbers of the header
    header_at : (i v : ℕ) → i < 8 → get_or numbers i 0 ≡ v → IsWord v → word_at image (word_bytes * i) ≡ v
    header_at i v l g h = number_at i v (let z = long in omega arith) g h

    pub version_back : version_of image ≡ version
    unfolding numbers
    version_back = header_at 1 version (omega arith) refl hv

    pub count_back : range_count image ≡ n
    unfolding numbers
    count_back = header_at 3 n (omega arith) refl (let f = few in omega arith)

    pub used_back : entry_count image ≡ p.used
    unfolding numbers
    used_back = header_at 5 p.used (omega arith) refl (let f = few in omega arith)

    pub length_back : length image ≡ image_end n p.used
    length_back = length_image version words p e

    headed : Headed image
    unfolding numbers
    headed =
        let f = few in
        let l = length_back in
        let c = count_back in
        let u = used_back in
        let total = header_at 2 (image_end n p.used) (omega arith) refl (omega arith) in
        record {
          sized = record { long = omega arith; short = omega arith; total = total ∙ sym l };
          format_right = header_at 0 format (omega arith) refl (omega arith);
          zeros = header_at 7 0 (omega arith) refl (omega arith);
          few_ranges = omega arith;
          few_entries = omega arith;
          ranges_begin = header_at 4 header_bytes (omega arith) refl (omega arith);
          entries_begin = header_at 6 (entries_at n) (omega arith) refl (omega arith) ∙ ap entries_at (sym c);
          size = total ∙ (let z : image_end n p.used ≡ image_end (range_count image) (entry_count image) = omega arith in z);
        }

    -- a number of the ranges
    range_number : (k at : ℕ) → k < length words → header_bytes + word_bytes * k ≡ at → word_at image at ≡ get_or words k 0
    unfolding numbers entries
    range_number k at l z =
        let h = long in
        let x : k < words_per_range * n = omega (arith, whole words e) in
        ap (word_at image) (let y : at ≡ word_bytes * (8 + k) = omega arith in y)
        ∙ number_at (8 + k) (get_or words k 0) (omega arith)
        (get_or-append-add (header_words version n p.used) (words ++ entries) k 0 ∙ get_or-append words entries 0 k l) (hw k)

    pub range_back : (i : ℕ) → i < n → range_at image i ≡ range_in words i
    unfolding range_at range_in
    range_back i l =
        let h = whole words e in
        let at = entries_at i in
        let a = range_number (words_per_range * i) at (omega arith) (omega arith) in
        let b = range_number (words_per_range * i + 1) (at + 4) (omega arith) (omega arith) in
        let c = range_number (words_per_range * i + 2) (at + 8) (omega arith) (omega arith) in
        λ d. record { first = a d; last = b d; class = c d }

    -- a number of the entries
    entry_number :
        (i j at : ℕ) → i < p.used → j < 2 → image_end n i + word_bytes * j ≡ at → IsWord (get_or (entry_words p i) j 0)
        → word_at image at ≡ get_or (entry_words p i) j 0
    unfolding numbers entries
    entry_number i j at l m z v =
        let h = long in
        let t : length words ≡ words_per_range * n = whole words e in
        let y : at ≡ word_bytes * (8 + (length words + (2 * i + j))) = omega arith in
        ap (word_at image) y
        ∙ number_at (8 + (length words + (2 * i + j))) (get_or (entry_words p i) j 0) (omega arith)
        (get_or-append-add (header_words version n p.used) (words ++ entries) (length words + (2 * i + j)) 0
        ∙ get_or-append-add words entries (2 * i + j) 0
        ∙ each_at (entry_words p) 2 (λ k. refl) p.used i j l m)
        v

    pub point_back : (i : ℕ) → i < p.used → point_at image i ≡ point_in p i
    unfolding point_at
    point_back i l = let c = count_back in entry_number i 0 _ l (omega arith) (omega arith) (hp i)

    pub role_back : (i : ℕ) → i < p.used → role_at image i ≡ role_in p i
    unfolding role_at
    role_back i l = let c = count_back in entry_number i 1 _ l (omega arith) (omega arith) (hr i)

    ranges_good : (i : ℕ) → i < n → GoodRange (range_at image) i
    ranges_good i l = range_same (range_back i l) (range_back (i - 1) (omega arith)) (w.ranges i l)

    entries_good : (i : ℕ) → i < p.used → GoodEntry (point_at image) (role_at image) i
    entries_good i l =
        entry_same (point_back i l) (point_back (i - 1) (omega arith)) (role_back i l) (w.entries i l)

    accepted_back : refusal_of image ≡ none
    accepted_back =
        let c = count_back in
        let u = used_back in
        refused_none image
        (record { header = headed; ranges = λ i l. ranges_good i (omega arith); entries = λ i l. entries_good i (omega arith) })

    words_same : ranges_of image ≡ words
    unfolding each
    words_same =
        ap (λ (k : ℕ). each_from (λ (i : ℕ). range_words (range_at image i)) k 0) count_back
        ∙ each_same (λ (i : ℕ). range_words (range_at image i)) (words_of words) n 0 (λ i _ l. ap range_words (range_back i (omega arith)))
        ∙ words_back words e

    -- reading back what was written
    pub read_back : ReadBack version words p image
    unfolding profile_within
    read_back =
        let u = used_back in
        record {
          is_accepted = accepted_back;
          same_version = version_back;
          same_count = count_back;
          same_words = words_same;
          same_entries =
              record {
                count = sym u;
                point = λ i l. sym ((entry_read max_entries image i (omega arith)).0 ∙ point_back i l);
                role = λ i l. sym ((entry_read max_entries image i (omega arith)).1 ∙ role_back i l);
              };
          zeros = λ i l. zeros_past max_entries image i (omega arith);
        }

-- an image depends on the ranges below n and on the entries before the used length only
image_same :
    (v : ℕ) (f g : ℕ → Range) (n : ℕ) (p q : Profile) → ((i : ℕ) → i < n → f i ≡ g i) → SameEntries p q → image_of v f n p ≡ image_of v g n q
unfolding image_of image_words each
image_same v f g n p q e h =
    let r = each_same (λ (i : ℕ). range_words (f i)) (λ (i : ℕ). range_words (g i)) n 0 (λ i _ l. ap range_words (e i (omega arith))) in
    let t =
    each_same (entry_words p) (entry_words q) p.used 0 (λ i _ l. let x = h.point i (omega arith) in let y = h.role i (omega arith) in λ d. x d ∷ y d ∷ []) in
    let u = t ∙ ap (λ (k : ℕ). each_from (entry_words q) k 0) h.count in
    ap bytes_of_all (λ d. header_words v n (h.count d) ++ (r d ++ u d))

-- the writer doesn't look at entries past the used length: same answer, same bytes
module _ (limit : ℕ) (words : List ℕ) (p q : Profile) (h : SameEntries p q) where
  bad_same : first_bad_entry (point_in p) (role_in p) p.used ≡ first_bad_entry (point_in q) (role_in q) q.used
  unfolding first_bad_entry
  bad_same =
      first_same (λ (i : ℕ). not (good_entry (point_in p) (role_in p) i)) (λ (i : ℕ). not (good_entry (point_in q) (role_in q) i)) p.used
      (λ i l. ap not (good_entry_same (point_in p) (point_in q) (role_in p) (role_in q) i (h.point i l) (h.point (i - 1) (omega arith)) (h.role i l)))
      ∙ ap (λ (k : ℕ). first_where (λ (i : ℕ). not (good_entry (point_in q) (role_in q) i)) k) h.count

  refusal_same : (room : ℕ) → write_refusal_within limit words p room ≡ write_refusal_within limit words q room
  unfolding write_refusal_within records_refusal
  refusal_same room = rw (bad_same, h.count)

  pub answer_same : (room : ℕ) → write_within limit words p room ≡ write_within limit words q room
  unfolding write_within
  answer_same room = ap (written_by words p) (refusal_same room) ∙ go (write_refusal_within limit words q room)
    where
      go : (o : Option Refusal) → written_by words p o ≡ written_by words q o
      go none = ap (λ (k : ℕ). Ok (image_end (ranges_in words) k)) h.count
      go (some r) = refl

  pub bytes_same : (version : ℕ) (out : List ℕ) → bytes_within limit version words p out ≡ bytes_within limit version words q out
  unfolding bytes_within
  bytes_same version out = ap (bytes_by version words p out) (refusal_same (length out)) ∙ go (write_refusal_within limit words q (length out))
    where
      go : (o : Option Refusal) → bytes_by version words p out o ≡ bytes_by version words q out o
      go none = ap (laid out 0) (image_same version (range_in words) (range_in words) (ranges_in words) p q (λ i l. refl) h)
      go (some r) = refl

module _ (s : List ℕ) (b : AllBytes s) (a : refusal_of s ≡ none) where
  h : Headed s
  h = (accepted s a).header

  size : length s ≡ image_end (range_count s) (entry_count s)
  size = accepted_size s a

  header_bytes_lem : bytes_of_all (header_words (version_of s) (range_count s) (entry_count s)) ≡ take header_bytes s
  header_bytes_lem =
      let f = h.format_right in
      let t = h.size in
      let o = h.ranges_begin in
      let q = h.entries_begin in
      let z = h.zeros in
      let x : words_from s 8 0 ≡ header_words (version_of s) (range_count s) (entry_count s) =
      λ d. f d ∷ version_of s ∷ t d ∷ range_count s ∷ o d ∷ entry_count s ∷ q d ∷ z d ∷ [] in
      ap bytes_of_all (sym x) ∙ bytes_from s b 8 0 (let l = h.sized.long in omega arith)

  range_bytes_lem : bytes_of_all (ranges_of s) ≡ take (range_bytes * range_count s) (drop header_bytes s)
  unfolding each range_at
  range_bytes_lem =
      let l = size in
      bytes_each s b (λ (i : ℕ). range_words (range_at s i)) words_per_range range_bytes header_bytes refl
      (λ j.
      let z : entries_at j + 8 ≡ entries_at j + 4 + 4 = omega arith in
      ap (λ (x : ℕ). word_at s (entries_at j) ∷ word_at s (entries_at j + 4) ∷ word_at s x ∷ []) z)
      (range_count s) 0 header_bytes (omega arith) (omega arith)

  entry_bytes_lem : bytes_of_all (each (entry_words (profile_of s)) (entry_count s)) ≡ take (entry_bytes * entry_count s) (drop (entries_at (range_count s)) s)
  unfolding each profile_within point_at role_at
  entry_bytes_lem =
      let l = size in
      let m = entry_count s in
      let f : ℕ → List ℕ = λ j. point_at s j ∷ role_at s j ∷ [] in
      ap bytes_of_all (each_same (entry_words (profile_of s)) f m 0 (λ i _ u. let (p, r) = entry_read max_entries s i (omega arith) in λ d. p d ∷ r d ∷ []))
      ∙ bytes_each s b f 2 entry_bytes (entries_at (range_count s)) refl (λ j. refl) m 0 (entries_at (range_count s)) (omega arith) (omega arith)

  cut :
      take header_bytes s ++ (take (range_bytes * range_count s) (drop header_bytes s) ++ take (entry_bytes * entry_count s) (drop (entries_at (range_count s)) s))
      ≡ s
  cut =
      let l = size in
      let n = entries_at (range_count s) in
      let k = length-drop n s in
      let r = range_bytes * range_count s in
      ap (λ (x : List ℕ). take header_bytes s ++ (take r (drop header_bytes s) ++ x))
      (take_all (entry_bytes * entry_count s) (drop n s) (omega arith) ∙ sym (drop-drop r header_bytes s))
      ∙ ap (λ (x : List ℕ). take header_bytes s ++ x) (take-append-drop r (drop header_bytes s))
      ∙ take-append-drop header_bytes s

  -- an accepted image is the image of what is read from it
  pub image_read : image_of (version_of s) (range_at s) (range_count s) (profile_of s) ≡ s
  unfolding image_of image_words profile_within
  image_read =
      let hd = header_words (version_of s) (range_count s) (entry_count s) in
      let es = each (entry_words (profile_of s)) (entry_count s) in
      all_append hd (ranges_of s ++ es)
      ∙ ap (λ (l : List ℕ). bytes_of_all hd ++ l) (all_append (ranges_of s) es)
      ∙ (λ d. header_bytes_lem d ++ (range_bytes_lem d ++ entry_bytes_lem d))
      ∙ cut

three : (s : List ℕ) (i : ℕ) → length (range_words (range_at s i)) ≡ words_per_range
three s i = refl

pub length_read : (s : List ℕ) → length (ranges_of s) ≡ words_per_range * range_count s
length_read s = length-each (λ (i : ℕ). range_words (range_at s i)) words_per_range (three s) (range_count s)

-- the ranges of the words that were read are the image's
pub range_read : (s : List ℕ) (i : ℕ) → i < range_count s → range_in (ranges_of s) i ≡ range_at s i
unfolding range_in
range_read s i l =
    let f : ℕ → List ℕ = λ j. range_words (range_at s j) in
    let z : words_per_range * i ≡ words_per_range * i + 0 = omega arith in
    let x = ap (λ (k : ℕ). get_or (ranges_of s) k 0) z ∙ each_at f words_per_range (three s) (range_count s) i 0 l (omega arith) in
    let y = each_at f words_per_range (three s) (range_count s) i 1 l (omega arith) in
    let c = each_at f words_per_range (three s) (range_count s) i 2 l (omega arith) in
    λ d. record { first = x d; last = y d; class = c d }

module _ (s : List ℕ) (b : AllBytes s) (a : refusal_of s ≡ none) where
  count_read : ranges_in (ranges_of s) ≡ range_count s
  count_read = omega (arith, length_read s)

  -- what was read from an accepted image may be written
  pub may_rewrite : Writable (ranges_of s) (profile_of s)
  unfolding profile_within
  may_rewrite =
      let k = accepted s a in
      let n = count_read in
      let e = entry_read max_entries s in
      record {
        counted =
            record {
              shaped = omega (arith, length_read s);
              few_ranges = omega (arith, k.header.few_ranges);
              few_entries = k.header.few_entries;
            };
        ranges =
            λ i l. range_same (range_read s i (omega arith)) (range_read s (i - 1) (omega arith)) (k.ranges i (omega arith));
        entries =
            λ i l.
            entry_same (e i l).0 (e (i - 1) (omega arith)).0 (e i l).1 (k.entries i l);
      }

  -- and gives the same bytes
  pub rewritten : image_of (version_of s) (range_in (ranges_of s)) (ranges_in (ranges_of s)) (profile_of s) ≡ s
  rewritten =
      ap (λ (k : ℕ). image_of (version_of s) (range_in (ranges_of s)) k (profile_of s)) count_read
      ∙ image_same (version_of s) (range_in (ranges_of s)) (range_at s) (range_count s) (profile_of s) (profile_of s) (range_read s)
      (record { count = refl; point = λ i l. refl; role = λ i l. refl })
      ∙ image_read s b a

-- an image that gives back a version, words and a profile is the one that is written for them
pub image_unique :
    (version : ℕ) (words : List ℕ) (p : Profile) (s : List ℕ) → AllBytes s → ReadBack version words p s
    → s ≡ image_of version (range_in words) (ranges_in words) p
image_unique version words p s b k =
    let q = k.same_entries in
    sym (rewritten s b k.is_accepted)
    ∙ (λ d. image_of (k.same_version d) (range_in (k.same_words d)) (ranges_in (k.same_words d)) (profile_of s))
    ∙ image_same version (range_in words) (range_in words) (ranges_in words) (profile_of s) p (λ i l. refl)
    (record {
      count = sym q.count;
      point = λ i l. sym (q.point i (let z = q.count in omega arith));
      role = λ i l. sym (q.role i (let z = q.count in omega arith));
    })

-- two accepted images with the same version, ranges and profile are the same
pub images_equal :
    (s t : List ℕ) → AllBytes s → AllBytes t → refusal_of s ≡ none → refusal_of t ≡ none → version_of s ≡ version_of t → range_count s ≡ range_count t
    → ((i : ℕ) → i < range_count s → range_at s i ≡ range_at t i) → SameEntries (profile_of s) (profile_of t) → s ≡ t
images_equal s t b c a d v n r p =
    sym (image_read s b a)
    ∙ image_same (version_of s) (range_at s) (range_at t) (range_count s) (profile_of s) (profile_of t) r p
    ∙ (λ x. image_of (v x) (range_at t) (n x) (profile_of t))
    ∙ image_read t c d

-- where the writer answers with a length, the buffer's first bytes, of that length, read back as what was written
pub written_back :
    (version : ℕ) (words : List ℕ) (p : Profile) (out : List ℕ) (len : ℕ) → IsWord version → AllWords words → AllWords p.points → AllWords p.roles
    → write_of words p (length out) ≡ Ok len → ReadBack version words p (take len (bytes_after version words p out))
written_back version words p out len hv hw hp hr e =
    let k = written_means version words p out len e in
    let s = image_of version (range_in words) (ranges_in words) p in
    let l : length s ≡ len = length_image version words p k.0.counted.shaped ∙ sym k.1 in
    let z : take len (bytes_after version words p out) ≡ s = ap (take len) k.3 ∙ take_at s (drop (0 + length s) out) len l in
    subst (ReadBack version words p) (sym z) (read_back version words p k.0 hv hw hp hr)

-- reading such an image into a buffer with room for the words gives the version, the number of ranges, the profile and the words
pub read_gives :
    (version : ℕ) (words : List ℕ) (p : Profile) (s buffer : List ℕ) → ReadBack version words p s → length words ≤ length buffer
    → ((read_of s (length buffer)).answer ≡ accepted_with version (ranges_in words))
    × SameEntries p (read_of s (length buffer)).profile
    × (words_after s buffer ≡ laid buffer 0 words)
read_gives version words p s buffer k l =
    let c = k.same_count in
    let (e, f) = means_read s buffer _ _ (is_read (accepted s k.is_accepted) (omega arith)) in (
      ap (λ (x : Checked). x.answer) e ∙ (λ d. accepted_with (k.same_version d) (c d)),
      subst (λ (x : Checked). SameEntries p x.profile) (sym e) k.same_entries,
      f ∙ ap (laid buffer 0) k.same_words,
    )

-- writing what was read from an accepted image gives its bytes again
pub write_again :
    (s : List ℕ) → AllBytes s → refusal_of s ≡ none → (out : List ℕ) → length s ≤ length out
    → (write_of (ranges_of s) (profile_of s) (length out) ≡ Ok (length s)) × (bytes_after (version_of s) (ranges_of s) (profile_of s) out ≡ laid out 0 s)
unfolding profile_within
write_again s b a out l =
    let z : bytes_needed (ranges_of s) (profile_of s) ≡ length s = omega (arith, count_read s b a, accepted_size s a) in
    let (e, f) = means_write (version_of s) (ranges_of s) (profile_of s) out _ _ (is_written (may_rewrite s b a) (omega arith)) in
    (e ∙ ap Ok z, f ∙ ap (laid out 0) (rewritten s b a))
