-- What a step is made of: the width of its tag and of each of its numbers, by kind and tag. The scope, "The schedule file". Assumes nothing.
use Rattle.std.specs.Prelude.{◌≡◌, ℕ, ◌<◌, List, [], ◌∷◌, get_or, drop}
use Rattle.rows.specs.Walk.{sum}

-- a tag takes one byte; clients, cells and threads one; other numbers four
abbrev pub tag : ℕ
tag = 1

abbrev pub who : ℕ
who = 1

abbrev pub what : ℕ
what = 4

-- the kinds
abbrev pub flat : ℕ
flat = 1

abbrev pub lock : ℕ
lock = 2

abbrev pub counting : ℕ
counting = 3

abbrev pub flag : ℕ
flag = 4

-- the steps of each kind by tag; tag 0 is no step, and what is no step has no widths
abbrev pub flat_widths : List (List ℕ)
flat_widths =
    []
    ∷ (tag ∷ who ∷ what ∷ what ∷ [])  -- client_send j rid req
    ∷ (tag ∷ who ∷ [])  -- client_recv j
    ∷ (tag ∷ [])  -- combiner_recv
    ∷ (tag ∷ [])  -- combiner_skip
    ∷ (tag ∷ [])  -- combiner_go_to_responding
    ∷ (tag ∷ what ∷ what ∷ [])  -- combiner_send rid resp
    ∷ (tag ∷ [])  -- combiner_send_skip
    ∷ (tag ∷ [])  -- combiner_go_to_collecting
    ∷ []

abbrev pub lock_widths : List (List ℕ)
lock_widths =
    []
    ∷ (tag ∷ [])  -- exc_start
    ∷ (tag ∷ [])  -- exc_check_count
    ∷ (tag ∷ [])  -- exc_finish
    ∷ (tag ∷ what ∷ [])  -- exc_release t
    ∷ (tag ∷ who ∷ [])  -- shared_start r
    ∷ (tag ∷ who ∷ [])  -- shared_finish r
    ∷ (tag ∷ who ∷ what ∷ [])  -- shared_release r t
    ∷ []

abbrev pub counting_widths : List (List ℕ)
counting_widths =
    []
    ∷ (tag ∷ what ∷ [])  -- writeable_to_readable t
    ∷ (tag ∷ [])  -- readable_to_writeable
    ∷ (tag ∷ [])  -- new_ref
    ∷ (tag ∷ what ∷ [])  -- delete_ref t
    ∷ []

abbrev pub flag_widths : List (List ℕ)
flag_widths =
    []
    ∷ (tag ∷ who ∷ [])  -- begin k
    ∷ (tag ∷ who ∷ [])  -- move k
    ∷ (tag ∷ who ∷ [])  -- read k
    ∷ []

-- the kinds by number; there is no kind 0
unfoldable pub widths : List (List (List ℕ))
widths = [] ∷ flat_widths ∷ lock_widths ∷ counting_widths ∷ flag_widths ∷ []

unfoldable pub widths_of : ℕ → ℕ → List ℕ
unfolding widths
widths_of kind t = get_or (get_or widths kind []) t []

-- a step's length: one byte for the tag plus the sizes of the step's numbers, and 0 for what is no step
abbrev pub length_of : ℕ → ℕ → ℕ
length_of kind t = sum (λ w. w) (widths_of kind t)

-- how many kinds and tags there are, both counted from 0 on: no kind has a tag past the last
abbrev pub kinds : ℕ
kinds = 5

abbrev pub tags : ℕ
tags = 9

-- a row that has the length of each tag of a kind
pub record RowOf (kind : ℕ) (row : List ℕ) : Type 0 where
  pub at : (t : ℕ) → t < tags → get_or row t 0 ≡ length_of kind t

-- the widths of a step's numbers, those behind its tag
abbrev pub number_widths : ℕ → ℕ → List ℕ
number_widths kind t = drop 1 (widths_of kind t)
