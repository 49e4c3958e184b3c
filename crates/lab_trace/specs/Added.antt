-- What is added to a text, and how it is taken away again: in each line all from the first tab on is added. Two tabs, one after the other, are a tab of the text.
use Rattle.std.specs.Prelude.{ℕ, ◌==◌, Bool, List, [], ◌∷◌, ◌++◌, if◌then◌else◌}

-- ---- taken away

-- a byte is read within the text, behind a tab, or in an addition
pub data Where : Type 0 where
  Plain : Where
  BehindTab : Where
  InAddition : Where

-- what is left of a byte
abbrev pub left_of : Where → ℕ → List ℕ
left_of Plain b = if b == 9 then [] else b ∷ []
left_of BehindTab b = if b == 9 then 9 ∷ [] else (if b == 10 then 10 ∷ [] else [])
left_of InAddition b = if b == 10 then 10 ∷ [] else []

-- where the next one is read; an addition ends with its line
abbrev pub next_to : Where → ℕ → Where
next_to Plain b = if b == 9 then BehindTab else Plain
next_to BehindTab b = if b == 9 then Plain else (if b == 10 then Plain else InAddition)
next_to InAddition b = if b == 10 then Plain else InAddition

-- what is left of a text
abbrev pub plain_from : Where → List ℕ → List ℕ
plain_from w [] = []
plain_from w (b ∷ bs) = left_of w b ++ plain_from (next_to w b) bs

-- a text without what is added to it
unfoldable pub plain_text : List ℕ → List ℕ
plain_text text = plain_from Plain text

-- ---- added

-- a text to which nothing is added
abbrev pub spelled : List ℕ → List ℕ
spelled [] = []
spelled (b ∷ bs) = if b == 9 then 9 ∷ 9 ∷ spelled bs else b ∷ spelled bs

-- an addition, where there is one
abbrev pub added : List ℕ → List ℕ
added [] = []
added (b ∷ bs) = 9 ∷ b ∷ bs

-- a byte that is a tab
abbrev pub is_tab : ℕ → Bool
is_tab b = b == 9
