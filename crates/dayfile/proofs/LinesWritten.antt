-- Lines written one after the other.
use Rattle.std.proofs.Common.{◌≡◌, ℕ, List, [], ◌∷◌, ◌++◌, Option, sym, ap, ◌∙◌, subst, append_assoc}
use Rattle.std.specs.Io.KnownBytes.{Appends}
use Rattle.std.proofs.KnownBytes.{Appends-nil, Appends-trans}
use Rattle.dayfile.specs.declared.line.Line.{Line}
use Rattle.dayfile.specs.Texts.{line_text, listing_text}

-- the first line is written, and then the others
pub wrote_line : (a b end : Option (List ℕ)) (ls ls' : List Line) (l : Line) → ls ≡ l ∷ ls' → Appends a b (line_text l ++ 10 ∷ []) → Appends b end (listing_text ls') → Appends a end (listing_text ls)
wrote_line a b end ls ls' l e first others =
    subst (Appends a end) (append_assoc (line_text l) (10 ∷ []) (listing_text ls') ∙ sym (ap listing_text e)) (Appends-trans a b end (line_text l ++ 10 ∷ []) (listing_text ls') first others)

-- where no line is left nothing is to be written
pub all_written : (a : Option (List ℕ)) (ls : List Line) → ls ≡ [] → Appends a a (listing_text ls)
all_written a ls e = subst (λ (xs : List Line). Appends a a (listing_text xs)) (sym e) (Appends-nil a)
