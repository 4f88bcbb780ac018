-- Inner: no public statement cites this file.
-- What is known of the code points that a text has: blocks of 64 code points, each with a row of cells. A cell is 16 times the length of
-- the code point's sequence, and what the token rules know of it. Row 0 and row 1 are ASCII, with no length.
use Rattle.std.specs.Prelude.{ℕ, ◌+◌, ◌*◌, ◌/◌, ◌%◌, ◌≤◌, ◌<◌, ◌≡◌, true, List, length, get_or, drop}
use Rattle.std.proofs.Math.Option.{none}
use Rattle.utf8.specs.declared.Step.TheVariants.{Scalar}
use Rattle.utf8.specs.Head.{step_of}
use Rattle.utf8.specs.Scalar.{is_scalar}
use Rattle.utf8.specs.Encoding.{encoding}
use Rattle.image.specs.Check.{refusal_of}
use Rattle.character.specs.declared.Memo.{Memo}
use Rattle.character.specs.Traits.{token_traits}
use Rattle.character.specs.Read.{TokenTableOf, MemoOf}

abbrev pub block_size : ℕ
block_size = 64

-- the blocks of an index
abbrev pub block_count : ℕ
block_count = 4096

-- the cell of code point number j of a block
abbrev pub cell_at : List ℕ → List ℕ → ℕ → ℕ → ℕ
cell_at index cells block j = get_or cells (get_or index block 0 * block_size + j) 0

-- a cell tells the scalar value x: the length of its sequence, and what the token rules know
pub record Tells (s : List ℕ) (x cell : ℕ) : Type 0 where
  pub scalar : is_scalar x ≡ true
  pub long : cell / 16 ≡ length (encoding x)
  pub known : cell % 16 ≡ token_traits s x

-- every block has one of the rows
pub record Fits (index cells : List ℕ) : Type 0 where
  pub ascii : 128 ≤ length cells
  pub rows : (block : ℕ) → block < length index → get_or index block 0 * block_size + block_size ≤ length cells

-- what is held is right under the image s; a cell with no length says nothing
pub record Cached (s index cells : List ℕ) : Type 0 where
  pub fits : Fits index cells
  pub ascii : TokenTableOf s cells
  pub held : (block j : ℕ) → block < length index → j < block_size → 16 ≤ cell_at index cells block j → Tells s (block * block_size + j) (cell_at index cells block j)

-- .. and rows from `rows` on are free and hold nothing; where there is room, the rows 2, 3 and 4 are those of Start; those after them are
-- of one block each
pub record Learning (s index cells : List ℕ) (rows : ℕ) : Type 0 where
  pub cached : Cached s index cells
  pub free : (block : ℕ) → block < length index → get_or index block 0 < rows
  pub start : (len j : ℕ) → 2 ≤ len → len ≤ 4 → j < block_size → 5 * block_size ≤ length cells → get_or cells (len * block_size + j) 0 ≡ 16 * len + 1
  pub own : (b b' : ℕ) → b < length index → b' < length index → 5 ≤ get_or index b 0 → get_or index b 0 ≡ get_or index b' 0 → b ≡ b'
  pub blank : (i : ℕ) → rows * block_size ≤ i → get_or cells i 0 ≡ 0

-- .. from some row on
pub record Learnt (s index cells : List ℕ) : Type 0 where
  pub rows : ℕ
  pub learning : Learning s index cells rows

-- all numbers are 0
pub record Blank (xs : List ℕ) : Type 0 where
  pub each : (i : ℕ) → get_or xs i 0 ≡ 0

-- a sequence of `len` bytes stands at a place, and t is what the token rules know of its code point
pub record Shown (s text : List ℕ) (at len t : ℕ) : Type 0 where
  pub code : ℕ
  pub stands : step_of (drop at text) ≡ Scalar code len
  pub known : t ≡ token_traits s code

-- what was found of a sequence of `len` bytes at a place: nothing, or what stands there, under each image for which what is held is right
pub record FoundAt (index cells text : List ℕ) (at len t : ℕ) : Type 0 where
  pub small : t < 16
  pub shown : (s : List ℕ) → Cached s index cells → 0 < t → Shown s text at len t

-- what is held of code point number j of a block, if its sequence has `len` bytes; else 0
pub record HeldAt (index cells : List ℕ) (block j len t : ℕ) : Type 0 where
  pub small : t < 16
  pub there : 0 < t → block < length index
  pub long : 0 < t → cell_at index cells block j / 16 ≡ len
  pub same : 0 < t → t ≡ cell_at index cells block j % 16

-- all code points of a block are scalar values, and their sequences have `len` bytes
abbrev pub BlockLong : ℕ → ℕ → Type 0
BlockLong block len = (j : ℕ) → j < block_size → (is_scalar (block * block_size + j) ≡ true) × (length (encoding (block * block_size + j)) ≡ len)

-- the memo has code points of a block
pub record Meets (memo : Memo) (block : ℕ) : Type 0 where
  pub some : memo.first ≤ memo.last
  pub from : memo.first < block * block_size + block_size
  pub to : block * block_size ≤ memo.last
  pub small : block < block_count

-- a cell was put at the places from `from` on, before `to`
pub record Put (from to cell : ℕ) (cells after : List ℕ) : Type 0 where
  pub long : length after ≡ length cells
  pub here : (i : ℕ) → from ≤ i → i < to → get_or after i 0 ≡ cell
  pub under : (i : ℕ) → i < from → get_or after i 0 ≡ get_or cells i 0
  pub over : (i : ℕ) → to ≤ i → get_or after i 0 ≡ get_or cells i 0

-- .. into a row, for each code point of the memo in a block
pub record RowPut (memo : Memo) (block row cell : ℕ) (cells after : List ℕ) : Type 0 where
  pub long : length after ≡ length cells
  pub here : (j : ℕ) → j < block_size → memo.first ≤ block * block_size + j → block * block_size + j ≤ memo.last → get_or after (row * block_size + j) 0 ≡ cell
  pub low : (j : ℕ) → j < block_size → block * block_size + j < memo.first → get_or after (row * block_size + j) 0 ≡ get_or cells (row * block_size + j) 0
  pub high : (j : ℕ) → j < block_size → memo.last < block * block_size + j → get_or after (row * block_size + j) 0 ≡ get_or cells (row * block_size + j) 0
  pub under : (i : ℕ) → i < row * block_size → get_or after i 0 ≡ get_or cells i 0
  pub over : (i : ℕ) → row * block_size + block_size ≤ i → get_or after i 0 ≡ get_or cells i 0

-- what was held is kept, and what is held is right under each image under which it was and the memo is
pub record Learns (memo : Memo) (index cells : List ℕ) (rows : ℕ) (index' cells' : List ℕ) (next : ℕ) : Type 0 where
  pub same_index : length index' ≡ length index
  pub same_cells : length cells' ≡ length cells
  pub fits : Fits index' cells'
  pub learning : (s : List ℕ) → refusal_of s ≡ none → MemoOf s memo → Learning s index cells rows → Learning s index' cells' next
