-- How a block is learned: what was held is kept, and what is held of the block is right. Assumes nothing.
use Prim.Native.Nat.{ℕ, ◌+◌, ◌-◌, ◌*◌, ◌/◌, ◌%◌, ◌≤◌, ◌<◌}
use mathlib.Core.Path.{◌≡◌, refl, sym, ap, subst, ◌∙◌}
use mathlib.Core.List.{List, ◌++◌}
use mathlib.Core.Option.{none}
use native.Mathlib.Omega.{arith}
use native.Mathlib.Decide.{ℕ_discrete, dec_lt}
use lib.ListN.{length, drop, get_or, set, length-set, length-append, get_or-append}
use lib.Seq.{get_or-set_same, get_or-set_other, get_or-drop, get_or-append-add}
use Rattle.lists.specs.Filled.{Filled}
use Rattle.image.specs.Check.{refusal_of}
use Rattle.character.specs.Traits.{token_traits}
use Rattle.character.specs.declared.Memo.{Memo}
use Rattle.character.specs.Read.{TokenTableOf, MemoOf}
use Rattle.character.proofs.TraitLaws.{token_small, token_traits_lem}
use Rattle.blocks.specs.Blocks.{block_size, Tells, Fits, Learning, Blank, BlockLong, Put, RowPut, Learns}

-- cells that begin with ASCII, while the rows of Start are filled
pub record Beginning (s cells : List ℕ) (i : ℕ) : Type 0 where
  pub from : 128 ≤ i
  pub ascii : TokenTableOf s cells
  pub start : (j : ℕ) → 128 ≤ j → j < i → get_or cells j 0 ≡ j / block_size * 16 + 1
  pub blank : (j : ℕ) → i ≤ j → get_or cells j 0 ≡ 0

module _ {s : List ℕ} where
  pub beginning : {size : ℕ} {ys : List ℕ} (cells : List ℕ) → Blank cells → size ≡ 128 → Filled size (λ (j : ℕ). 0 + token_traits s (0 + j)) ys size → Beginning s (ys ++ drop 128 cells) 128
  beginning {ys = ys} cells o n f =
      let l = f.long in
      let rest = drop 128 cells in
      record {
        from = omega arith;
        ascii =
            record {
              long = omega (arith, length-append ys rest);
              each = λ y h.
                  let z : 0 + y ≡ y = omega arith in
                  let o : 0 + token_traits s (0 + y) ≡ token_traits s (0 + y) = omega arith in
                  get_or-append ys rest 0 y (omega arith) ∙ f.each y (omega arith) ∙ o ∙ ap (token_traits s) z;
            };
        start = λ j g h. absurd (omega arith);
        blank = λ j h.
            let z : j ≡ length ys + (j - 128) = omega arith in
            ap (λ (k : ℕ). get_or (ys ++ rest) k 0) z ∙ get_or-append-add ys rest (j - 128) 0 ∙ get_or-drop 128 cells (j - 128) 0 ∙ o.each _;
      }

  -- with a blank index they say nothing of any block
  pub begins : {cells : List ℕ} {i : ℕ} → refusal_of s ≡ none → Beginning s cells i → i ≤ 5 * block_size → (5 * block_size ≤ length cells → 5 * block_size ≤ i) → (index : List ℕ) → Blank index → Learning s index cells 5
  begins {cells} a b m f index o =
      let l = b.ascii.long in
      record {
        cached =
            record {
              fits = record { ascii = l; rows = λ k h. omega (arith, o.each k) };
              ascii = b.ascii;
              held = λ k j h g p.
                  let z : get_or index k 0 * block_size + j ≡ j = omega (arith, o.each k) in
                  let e = ap (λ (n : ℕ). get_or cells n 0) z ∙ b.ascii.each j (omega arith) in
                  absurd (omega (arith, e, token_small s j a));
            };
        free = λ k h. omega (arith, o.each k);
        start = λ len j u v g w. b.start (len * block_size + j) (omega arith) (omega (arith, f w)) ∙ omega arith;
        own = λ k k' h g p e. absurd (omega (arith, o.each k));
        blank = λ k h. b.blank k (omega arith);
      }

-- a row of a block's cells tells its code points
pub told :
    {s : List ℕ} (block : ℕ) {len j c : ℕ} → refusal_of s ≡ none → BlockLong block len → j < block_size → c ≡ len * 16 + token_traits s (block * block_size + j)
    → Tells s (block * block_size + j) c
told {s} block {len} {j} a b l e =
    let t = token_small s (block * block_size + j) a in
    let k = b j l in
    record { scalar = k.0; long = omega (arith, k.1); known = omega arith }

-- what is right of a block's row, and of the row of every other
each_row :
    (index : List ℕ) (P : ℕ → ℕ → Type 0) (block row : ℕ) → block < length index → P block row → ((k : ℕ) → k < length index → P k (get_or index k 0))
    → (k : ℕ) → k < length (set index block row) → P k (get_or (set index block row) k 0)
each_row index P block row b here others k h = go (ℕ_discrete k block)
  where
    go : Dec (k ≡ block) → P k (get_or (set index block row) k 0)
    go (yes e) = subst (λ (n : ℕ). P n (get_or (set index block row) n 0)) (sym e) (subst (P block) (sym (get_or-set_same index block row 0 b)) here)
    go (no d) = subst (P k) (sym (get_or-set_other index block k row 0 d)) (others k (omega (arith, length-set index block row)))

-- a block has got a row, in cells that are kept up to the free ones
pub learned :
    {s index cells after : List ℕ} {rows : ℕ} (block row next : ℕ) → Learning s index cells rows → 5 ≤ rows → length after ≡ length cells
    → ((i : ℕ) → i < rows * block_size → get_or after i 0 ≡ get_or cells i 0) → block < length index → row < next → rows ≤ next → row * block_size + block_size ≤ length cells
    → (5 ≤ row → rows ≤ row) → ((i : ℕ) → next * block_size ≤ i → get_or after i 0 ≡ 0)
    → ((j : ℕ) → j < block_size → 16 ≤ get_or after (row * block_size + j) 0 → Tells s (block * block_size + j) (get_or after (row * block_size + j) 0)) → Learning s (set index block row) after next
learned {s} {index} {cells} {after} {rows} block row next learning h l kept b n m w fresh blank here =
    let c = learning.cached in
    record {
      cached =
          record {
            fits =
                record {
                  ascii = omega (arith, c.fits.ascii);
                  rows = each_row index (λ (k r : ℕ). r * block_size + block_size ≤ length after) block row b (omega arith) (λ k g. omega (arith, c.fits.rows k g));
                };
            ascii = record { long = omega (arith, c.fits.ascii); each = λ y g. kept y (omega arith) ∙ c.ascii.each y g };
            held = λ k j g i.
                each_row index (λ (k r : ℕ). 16 ≤ get_or after (r * block_size + j) 0 → Tells s (k * block_size + j) (get_or after (r * block_size + j) 0)) block row b (here j i)
                (λ k g p.
                let e = kept (get_or index k 0 * block_size + j) (omega (arith, learning.free k g)) in
                subst (Tells s (k * block_size + j)) (sym e) (c.held k j g i (omega arith))) k
                g;
          };
      free = each_row index (λ (k r : ℕ). r < next) block row b n (λ k g. omega (arith, learning.free k g));
      start = λ len j u v g w. kept (len * block_size + j) (omega arith) ∙ learning.start len j u v g (omega arith);
      own = λ k k' g g'.
          each_row index (λ (k r : ℕ). 5 ≤ r → r ≡ get_or (set index block row) k' 0 → k ≡ k') block row b
          (each_row index (λ (k r : ℕ). 5 ≤ row → row ≡ r → block ≡ k) block row b (λ _ _. refl) (λ k g p e. absurd (omega (arith, fresh p, learning.free k g))) k' g')
          (λ k g. each_row index (λ (k' r : ℕ). 5 ≤ get_or index k 0 → get_or index k 0 ≡ r → k ≡ k') block row b (λ p e. absurd (omega (arith, fresh (omega arith), learning.free k g))) (λ k' g'. learning.own k k' g g') k' g') k
          g;
      blank = blank;
    }

-- cells were put into a block's own row
pub put_in :
    {s index cells after : List ℕ} {rows : ℕ} (block : ℕ) → Learning s index cells rows → length after ≡ length cells → block < length index → 5 ≤ get_or index block 0
    → ((i : ℕ) → i < get_or index block 0 * block_size → get_or after i 0 ≡ get_or cells i 0)
    → ((i : ℕ) → get_or index block 0 * block_size + block_size ≤ i → get_or after i 0 ≡ get_or cells i 0)
    → ((j : ℕ) → j < block_size → 16 ≤ get_or after (get_or index block 0 * block_size + j) 0 → Tells s (block * block_size + j) (get_or after (get_or index block 0 * block_size + j) 0))
    → Learning s index after rows
put_in {s} {index} {cells} {after} {rows} block learning l b h under over here =
    let c = learning.cached in
    record {
      cached =
          record {
            fits = record { ascii = omega (arith, c.fits.ascii); rows = λ k g. omega (arith, c.fits.rows k g) };
            ascii = record { long = omega (arith, c.fits.ascii); each = λ y g. under y (omega arith) ∙ c.ascii.each y g };
            held = λ k j g i. held k j g i (ℕ_discrete k block);
          };
      free = learning.free;
      start = λ len j u v g w. under (len * block_size + j) (omega arith) ∙ learning.start len j u v g (omega arith);
      own = learning.own;
      blank = λ i g. over i (omega (arith, learning.free block b)) ∙ learning.blank i g;
    }
  where
    same : (k j : ℕ) → k < length index → j < block_size → (k ≡ block → ⊥) → Dec (get_or index k 0 < get_or index block 0) → Dec (get_or index block 0 < get_or index k 0)
        → get_or after (get_or index k 0 * block_size + j) 0 ≡ get_or cells (get_or index k 0 * block_size + j) 0
    same k j g i d (yes p) q = under _ (omega arith)
    same k j g i d (no p) (yes q) = over _ (omega arith)
    same k j g i d (no p) (no q) = absurd (d (sym (learning.own block k b g h (omega arith))))

    held : (k j : ℕ) → k < length index → j < block_size → Dec (k ≡ block) → 16 ≤ get_or after (get_or index k 0 * block_size + j) 0 → Tells s (k * block_size + j) (get_or after (get_or index k 0 * block_size + j) 0)
    held k j g i (yes e) = subst (λ (n : ℕ). 16 ≤ get_or after (get_or index n 0 * block_size + j) 0 → Tells s (n * block_size + j) (get_or after (get_or index n 0 * block_size + j) 0)) (sym e) (here j i)
    held k j g i (no d) =
        subst (λ (n : ℕ). 16 ≤ n → Tells s (k * block_size + j) n) (sym (same k j g i d (dec_lt _ _) (dec_lt _ _))) (learning.cached.held k j g i)

-- more rows may be taken to be in use
pub learning_more : {s index cells : List ℕ} {rows n : ℕ} → Learning s index cells rows → rows ≤ n → Learning s index cells n
learning_more l h =
    record {
      cached = l.cached;
      free = λ k g. omega (arith, l.free k g);
      start = l.start;
      own = l.own;
      blank = λ i g. l.blank i (omega arith);
    }

-- cells that were put into a row
pub row_put :
    {memo : Memo} (block row : ℕ) {from to cell : ℕ} {cells after : List ℕ} → from ≡ row * block_size + (memo.first - block * block_size)
    → {r : ℕ} → to ≡ row * block_size + r → r ≤ block_size → block * block_size + r ≤ memo.last + 1 → ((j : ℕ) → j < block_size → block * block_size + j ≤ memo.last → j < r)
    → memo.first < block * block_size + block_size → Put from to cell cells after → RowPut memo block row cell cells after
row_put block row e f h g m n p =
    record {
      long = p.long;
      here = λ j l a b. p.here _ (omega arith) (omega (arith, m j l b));
      low = λ j l a. p.under _ (omega arith);
      high = λ j l a. p.over _ (omega arith);
      under = λ i l. p.under i (omega arith);
      over = λ i l. p.over i (omega arith);
    }

module _ {s : List ℕ} {memo : Memo} (block : ℕ) {len cell : ℕ} (a : refusal_of s ≡ none) (m : MemoOf s memo) (b : BlockLong block len) (e : cell ≡ len * 16 + memo.traits % 16) where
  -- the memo's cell tells its code points
  memo_told : (j : ℕ) → j < block_size → memo.first ≤ block * block_size + j → block * block_size + j ≤ memo.last → Tells s (block * block_size + j) cell
  memo_told j l h g = told block a b l (omega (arith, m (block * block_size + j) h g, token_traits_lem s (block * block_size + j) a))

  -- so a row that it was put into is right, if it was
  row_told :
      {row : ℕ} {cells after : List ℕ} → RowPut memo block row cell cells after
      → ((j : ℕ) → j < block_size → 16 ≤ get_or cells (row * block_size + j) 0 → Tells s (block * block_size + j) (get_or cells (row * block_size + j) 0))
      → (j : ℕ) → j < block_size → 16 ≤ get_or after (row * block_size + j) 0 → Tells s (block * block_size + j) (get_or after (row * block_size + j) 0)
  row_told {row} {cells} {after} p old j l = go (dec_lt (block * block_size + j) memo.first) (dec_lt memo.last (block * block_size + j))
    where
      kept : get_or after (row * block_size + j) 0 ≡ get_or cells (row * block_size + j) 0 → 16 ≤ get_or after (row * block_size + j) 0 → Tells s (block * block_size + j) (get_or after (row * block_size + j) 0)
      kept q = subst (λ (n : ℕ). 16 ≤ n → Tells s (block * block_size + j) n) (sym q) (old j l)

      go : Dec (block * block_size + j < memo.first) → Dec (memo.last < block * block_size + j) → 16 ≤ get_or after (row * block_size + j) 0 → Tells s (block * block_size + j) (get_or after (row * block_size + j) 0)
      go (yes h) g = kept (p.low j l h)
      go (no h) (yes g) = kept (p.high j l g)
      go (no h) (no g) = λ _. subst (Tells s (block * block_size + j)) (sym (p.here j l (omega arith) (omega arith))) (memo_told j l (omega arith) (omega arith))

module _ {memo : Memo} {index cells : List ℕ} {rows : ℕ} (block : ℕ) {len : ℕ} (f : Fits index cells) (h : block < length index) (b : BlockLong block len) where
  -- a row is put into
  pub learns_more :
      {row cell : ℕ} {after : List ℕ} → row ≡ get_or index block 0 → 5 ≤ row → cell ≡ len * 16 + memo.traits % 16 → RowPut memo block row cell cells after
      → Learns memo index cells rows index after rows
  learns_more {row} {cell} {after} z g e q =
      let p = subst (λ (r : ℕ). RowPut memo block r cell cells after) z q in
      record {
        same_index = refl;
        same_cells = p.long;
        fits = record { ascii = omega (arith, f.ascii, p.long); rows = λ k l. omega (arith, f.rows k l, p.long) };
        learning = λ s a m l. put_in block l p.long h (omega arith) p.under p.over (row_told block a m b e p (λ j i. l.cached.held block j h i));
      }

  -- the block gets the row of Start
  pub learns_start :
      2 ≤ len → len ≤ 4 → 5 ≤ rows → 5 * block_size ≤ length cells → memo.first ≤ block * block_size → block * block_size + 63 ≤ memo.last → memo.traits % 16 ≡ 1
      → Learns memo index cells rows (set index block len) cells rows
  learns_start u v g w x y t =
      record {
        same_index = length-set index block len;
        same_cells = refl;
        fits = record { ascii = f.ascii; rows = each_row index (λ (k r : ℕ). r * block_size + block_size ≤ length cells) block len h (omega arith) (λ k l. f.rows k l) };
        learning = λ s a m l.
            learned block len rows l g refl (λ i _. refl) h (omega arith) (omega arith) (omega arith) (λ z. absurd (omega arith)) l.blank
            (λ j i _. subst (Tells s (block * block_size + j)) (sym (l.start len j u v i w)) (memo_told block a m b (omega arith) j i (omega arith) (omega arith)));
      }

  -- .. or the free row
  pub learns_row :
      {cell : ℕ} {after : List ℕ} → 5 ≤ rows → rows * block_size + block_size ≤ length cells → cell ≡ len * 16 + memo.traits % 16 → RowPut memo block rows cell cells after
      → Learns memo index cells rows (set index block rows) after (rows + 1)
  learns_row {cell} {after} g w e p =
      record {
        same_index = length-set index block rows;
        same_cells = p.long;
        fits =
            record {
              ascii = omega (arith, f.ascii, p.long);
              rows = each_row index (λ (k r : ℕ). r * block_size + block_size ≤ length after) block rows h (omega (arith, p.long)) (λ k l. omega (arith, f.rows k l, p.long));
            };
        learning = λ s a m l.
            learned block rows (rows + 1) l g p.long p.under h (omega arith) (omega arith) w (λ _. omega arith) (λ i z. p.over i (omega arith) ∙ l.blank i (omega arith))
            (row_told block a m b e p (λ j i z. absurd (omega (arith, l.blank (rows * block_size + j) (omega arith)))));
      }
