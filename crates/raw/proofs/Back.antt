-- A state written and read again is the same, where its numbers fit their bytes and its rows are whole. Assumes nothing.
use mathlib.Core.Path.{◌≡◌, refl, sym, ap, ◌∙◌}
use mathlib.Core.Bool.{Bool, true, false, not, ◌&&◌}
use mathlib.Core.List.{List, [], ◌∷◌, ◌++◌, append_assoc, append-nil}
use Prim.Native.Nat.{ℕ, ◌+◌, ◌*◌, ◌^◌, ◌≤◌, ◌<◌}
use native.Mathlib.Omega.{arith}
use borrow.Author.Tests.{leb-true, leb-false, ltb-true}
use mir.Val.{bool_byte}
use lib.Dec.{eqb, leb, ltb}
use lib.ListN.{length, drop, length-append}
use lib.Seq.{drop-append-add}
use Rattle.rows.specs.Bytes.{number, big, number_at}
use Rattle.rows.specs.Walk.{every, pieces}
use Rattle.rows.proofs.Bytes.{spelled, length_big, bytes_at_at, bytes_at_inside, bytes_at_outside, number_at_one}
use Rattle.rows.proofs.Walks.{every_all}
use Rattle.rows.proofs.Cases.{on, both_true}
use Rattle.schedule.specs.Limits as limit
use Rattle.counting.specs.declared.state.State as counting
use Rattle.lock.specs.declared.state.Cell.{Cell}
use Rattle.lock.specs.declared.state.State as lock
use Rattle.lock.specs.Lock.{zero_cell}
use Rattle.flag.specs.declared.state.State as flag
use Rattle.flat.specs.declared.state.Client.{Client}
use Rattle.flat.specs.declared.state.Elem.{Elem}
use Rattle.flat.specs.declared.state.State as flat
use Rattle.lock.specs.Image.{cell_bytes}
use Rattle.raw.specs.Raw.{client_long, elem_long, elems_at, combiner_at, byte_at, row_from, counting_from, counting_bytes, cell_at, head_bytes, lock_from, lock_bytes, flag_from, flag_bytes, client_at, clients_from, client_bytes, elem_at, elems_from, elem_bytes, combiner_bytes, flat_from, flat_bytes}
use Rattle.raw.proofs.Writes.{clients_length, elems_length}

-- ---------- numbers, bytes and flags in their place

-- a number behind pre
number_at_lem : (pre post : List ℕ) (w n at : ℕ) → at ≡ length pre → n < 256 ^ w → number_at (pre ++ (big w n ++ post)) at w ≡ n
number_at_lem pre post w n at p h = ap number (bytes_at_at pre (big w n) post at w p (sym (length_big w n))) ∙ spelled w n h

byte_at_lem : (b : ℕ) (pre post : List ℕ) (at : ℕ) → at ≡ length pre → byte_at (pre ++ (b ∷ post)) at ≡ b
byte_at_lem b pre post at p = ap number (bytes_at_at pre (b ∷ []) post at 1 p refl)

-- what is read behind pre is read of the rest
deeper : (pre rest : List ℕ) (at j w : ℕ) → at ≡ length pre → number_at (pre ++ rest) (at + j) w ≡ number_at rest j w
deeper pre rest at j w p =
    let long = length-append pre rest in
    let gone : drop (at + j) (pre ++ rest) ≡ drop j rest = rw p (drop-append-add pre rest j) in
    on (leb (j + w) (length rest))
    (λ e. let h : j + w ≤ length rest = leb-true (j + w) (length rest) e in
    rw (bytes_at_inside (pre ++ rest) (at + j) w (omega arith), bytes_at_inside rest j w h, gone))
    (λ e. let h : length rest < j + w = leb-false (j + w) (length rest) e in
    rw (bytes_at_outside (pre ++ rest) (at + j) w (omega arith), bytes_at_outside rest j w h))

-- a flag's byte is not 0 where it is set
set_back : (b : Bool) → not (eqb (bool_byte b) 0) ≡ b
set_back true = refl
set_back false = refl

-- ---------- counting

pub counting_back : (s : counting.State) → s.t < 256 ^ 4 → counting_from (counting_bytes s) ≡ s
counting_back s h =
    let raw = counting_bytes s in
    rw (number_at_lem [] (s.count ∷ s.refs ∷ bool_byte s.present ∷ []) 4 s.t 0 refl h, number_at_one raw 4, number_at_one raw 5, number_at_one raw 6, set_back s.present)

-- ---------- a row, a piece of the same size for each entry, each read at its place

module _ {A : Type 0} (f : A → List ℕ) (p : A → Bool) (k : ℕ) (read : List ℕ → ℕ → A) (at : ℕ → ℕ) (even : (x : A) → length (f x) ≡ k)
    (step : (j : ℕ) → at (j + 1) ≡ at j + k) (back : (x : A) → p x ≡ true → (pre post : List ℕ) (j : ℕ) → j ≡ length pre → read (pre ++ (f x ++ post)) j ≡ x) where
  row_back : (xs : List A) (raw pre post : List ℕ) (i : ℕ) → raw ≡ pre ++ (pieces f xs ++ post) → at i ≡ length pre → every (λ j x. p x) i xs ≡ true
      → row_from (λ j. read raw (at j)) i (length xs) ≡ xs
  row_back [] raw pre post i e h t = refl
  row_back (x ∷ xs) raw pre post i e h t =
      let b = both_true (p x) (every (λ j y. p y) (i + 1) xs) t in
      let rest = pieces f xs ++ post in
      let here : raw ≡ pre ++ (f x ++ rest) = e ∙ ap (λ (l : List ℕ). pre ++ l) (append_assoc (f x) (pieces f xs) post) in
      let there : raw ≡ pre ++ f x ++ rest = here ∙ sym (append_assoc pre (f x) rest) in
      let first : read raw (at i) ≡ x = rw here (back x b.0 pre rest (at i) h) in
      let place : at (i + 1) ≡ length (pre ++ f x) = omega (arith, step i, even x, length-append pre (f x)) in
      rw (first, row_back xs raw (pre ++ f x) post (i + 1) there place b.1)

  row_whole : (xs : List A) (n : ℕ) (pre post : List ℕ) → length xs ≡ n → at 0 ≡ length pre → every (λ j x. p x) 0 xs ≡ true
      → row_from (λ j. read (pre ++ (pieces f xs ++ post)) (at j)) 0 n ≡ xs
  row_whole xs n pre post l h t = rw (← l) (row_back xs (pre ++ (pieces f xs ++ post)) pre post 0 refl h t)

-- entries of which nothing is asked
free : {A : Type 0} (d : A) (xs : List A) → every (λ j x. true) 0 xs ≡ true
free d xs = every_all (λ j x. true) d xs (λ k h. refl)

-- ---------- lock

cell_back : (c : Cell) (pre post : List ℕ) (j : ℕ) → j ≡ length pre → cell_at (pre ++ (cell_bytes c ++ post)) j ≡ c
cell_back c pre post j p =
    let rest = cell_bytes c ++ post in
    rw (byte_at_lem c.count pre (c.pending ∷ c.guards ∷ post) j p, deeper pre rest j 1 1 p, number_at_one rest 1, deeper pre rest j 2 1 p, number_at_one rest 2)

pub lock_back : (s : lock.State) → s.head.t < 256 ^ 4 → length s.cells ≡ limit.width → lock_from (lock_bytes s) ≡ s
lock_back s h l =
    let raw = lock_bytes s in
    let front = head_bytes s.head in
    let cells = row_whole cell_bytes (λ c. true) 3 cell_at (λ j. 10 + 3 * j) (λ c. refl) (λ j. omega arith) (λ c t. cell_back c) s.cells limit.width front [] l refl (free zero_cell s.cells) in
    let t = number_at_lem [] (drop 4 raw) 4 s.head.t 0 refl h in
    rw (
      rw (append-nil (pieces cell_bytes s.cells)) at cells,
      t,
      number_at_one raw 4,
      number_at_one raw 5,
      number_at_one raw 6,
      set_back s.head.locked,
      number_at_one raw 7,
      set_back s.head.stored,
      number_at_one raw 8,
      set_back s.head.pending,
      number_at_one raw 9,
      set_back s.head.guard,
    )

-- ---------- flag

-- a byte for each entry: the pieces are the row
bytes_pieces : (xs : List ℕ) → pieces (λ x. x ∷ []) xs ≡ xs
bytes_pieces [] = refl
bytes_pieces (x ∷ xs) = rw (bytes_pieces xs)

pub flag_back : (s : flag.State) → length s.places ≡ limit.threads → flag_from (flag_bytes s) ≡ s
flag_back s l =
    let raw = flag_bytes s in
    let front = s.threads ∷ s.pending ∷ bool_byte s.value ∷ [] in
    let places = row_whole (λ x. x ∷ []) (λ x. true) 1 byte_at (λ j. 3 + j) (λ x. refl) (λ j. omega arith) (λ x t. byte_at_lem x) s.places limit.threads front [] l refl (free 0 s.places) in
    rw (rw (append-nil (pieces (λ (x : ℕ). x ∷ []) s.places), bytes_pieces s.places) at places, number_at_one raw 0, number_at_one raw 1, number_at_one raw 2, set_back s.value)

-- ---------- flat

-- a number of four bytes, the record's tests
abbrev pub word : ℕ → Bool
word n = ltb n (256 ^ 4)

abbrev pub client_fits : Client → Bool
client_fits c = word c.rid && (word c.req && word c.resp)

abbrev pub elem_fits : Elem → Bool
elem_fits e = word e.rid

word_small : (n : ℕ) → word n ≡ true → n < 256 ^ 4
word_small n t = ltb-true n (256 ^ 4) t

client_back : (c : Client) → client_fits c ≡ true → (pre post : List ℕ) (j : ℕ) → j ≡ length pre → client_at (pre ++ (client_bytes c ++ post)) j ≡ c
client_back c t pre post j p =
    let fits = both_true (word c.rid) (word c.req && word c.resp) t in
    let more = both_true (word c.req) (word c.resp) fits.1 in
    let rest = client_bytes c ++ post in
    let first = number_at_lem pre (drop 4 rest) 4 c.rid j p (word_small c.rid fits.0) in
    let second = number_at_lem (big 4 c.rid) (drop 8 rest) 4 c.req 4 refl (word_small c.req more.0) in
    let third = number_at_lem (big 4 c.rid ++ big 4 c.req) (drop 12 rest) 4 c.resp 8 refl (word_small c.resp more.1) in
    rw (
      first,
      deeper pre rest j 4 4 p,
      second,
      deeper pre rest j 8 4 p,
      third,
      deeper pre rest j 12 1 p,
      number_at_one rest 12,
      set_back c.waiting,
      deeper pre rest j 13 1 p,
      number_at_one rest 13,
      set_back c.asked,
      deeper pre rest j 14 1 p,
      number_at_one rest 14,
      set_back c.told,
      deeper pre rest j 15 1 p,
      number_at_one rest 15,
      set_back c.slot,
    )

elem_back : (e : Elem) → elem_fits e ≡ true → (pre post : List ℕ) (j : ℕ) → j ≡ length pre → elem_at (pre ++ (elem_bytes e ++ post)) j ≡ e
elem_back e t pre post j p =
    let rest = elem_bytes e ++ post in
    rw (number_at_lem pre (drop 4 rest) 4 e.rid j p (word_small e.rid t), deeper pre rest j 4 1 p, number_at_one rest 4, set_back e.present)

module _ (s : flat.State) (long : length s.clients ≡ limit.clients) (wide : length s.elems ≡ limit.clients) (fit : every (λ j c. client_fits c) 0 s.clients ≡ true)
    (fits : every (λ j e. elem_fits e) 0 s.elems ≡ true) where
  abbrev clients : List ℕ
  clients = pieces client_bytes s.clients

  abbrev elems : List ℕ
  elems = pieces elem_bytes s.elems

  clients_back : clients_from (flat_bytes s) ≡ s.clients
  clients_back =
      row_whole client_bytes client_fits client_long client_at (λ j. client_long * j) (λ c. refl) (λ j. omega arith) client_back s.clients limit.clients [] (elems ++ combiner_bytes s) long refl fit

  elems_back : elems_from (flat_bytes s) ≡ s.elems
  elems_back =
      let place = sym (clients_length s long wide) in
      row_whole elem_bytes elem_fits elem_long elem_at (λ j. elems_at + elem_long * j) (λ e. refl) (λ j. omega arith) elem_back s.elems limit.clients clients (combiner_bytes s) wide place fits

  -- the combiner stands behind both rows
  behind : (j : ℕ) → number_at (flat_bytes s) (combiner_at + j) 1 ≡ number_at (combiner_bytes s) j 1
  behind j =
      let place : combiner_at ≡ length (clients ++ elems) =
      omega (arith, clients_length s long wide, elems_length s long wide, length-append clients elems) in
      rw (append_assoc clients elems (combiner_bytes s)) at (deeper (clients ++ elems) (combiner_bytes s) (combiner_at) j 1 place)

  pub flat_back : flat_from (flat_bytes s) ≡ s
  flat_back =
      let b = combiner_bytes s in
      rw (clients_back, elems_back, behind 0, number_at_one b 0, behind 1, number_at_one b 1, behind 2, number_at_one b 2, behind 3, number_at_one b 3, set_back s.responding)
