-- Registers that stand as they were read: what is put in place of what was read is put in place of what stands.
use Rattle.std.proofs.Common.{◌≡◌, ℕ, zero, suc, ◌<◌, Bool, true, false, cond, List, [], ◌∷◌, ◌++◌, length, sym, refl, ap, ◌∙◌, arith}
use Rattle.std.proofs.lemmas.Bool.{lt-ltb}
use Rattle.std.proofs.lemmas.Grind.{common_steps}
use Rattle.seek.proofs.Cases.{no_case}
use Rattle.registers.specs.declared.figures.Figures.{Figures}
use Rattle.registers.specs.declared.row.Row.{Row}
use Rattle.registers.specs.Stores.{put_row}
use Rattle.registers.specs.Changes.{Change, Put, put_changes}
use Rattle.full.specs.declared.register_move.Move.{Move}
use Rattle.full.specs.OpenRegisters.{FiguresAt, same_figures, moving, replaced, replacing}
use Rattle.full.specs.Trades.{in_order, moved, moved_all, changes_of, replaced_all, replacing_all, Following}
use Rattle.full.proofs.Swaps.{put_row_same}
use Rattle.full.proofs.Ordered.{in_order_leads}

same : (f g : Figures) → same_figures f g ≡ true → f ≡ g
same f g h = grind (arith, common_steps)

within : (rs : List Row) (n : ℕ) (f : Figures) → FiguresAt rs n f → n < length rs
within [] n f e = no_case (cc)
within (r ∷ rs) zero f e = omega arith
within (r ∷ rs) (suc n) f e = omega (arith, within rs n f e)

-- where the figures stay, and where they change
pub stays_read : (rs : List Row) (n : ℕ) (f g : Figures) → same_figures f g ≡ true → FiguresAt rs n f → rs ≡ put_row rs n g
stays_read rs n f g e at = put_row_same rs n f at ∙ ap (put_row rs n) (same f g e)

pub put_read : (rs : List Row) (n : ℕ) (f g : Figures) → same_figures f g ≡ false → FiguresAt rs n f → put_changes rs n g ≡ moving n f g
put_read rs n f g e at = ap (λ (b : Bool). cond b (Put n g ∷ []) []) (lt-ltb n (length rs) (within rs n f at)) ∙ sym (ap (λ (b : Bool). cond b [] (Put n g ∷ [])) e)

rows_by : (rs : List Row) (n : ℕ) (f g : Figures) (b : Bool) → same_figures f g ≡ b → FiguresAt rs n f → cond b rs (put_row rs n g) ≡ put_row rs n g
rows_by rs n f g true e at = stays_read rs n f g e at
rows_by rs n f g false e at = refl

-- one register
pub rows_read : (rs : List Row) (n : ℕ) (f g : Figures) → FiguresAt rs n f → replaced rs n f g ≡ put_row rs n g
unfolding replaced
rows_read rs n f g at = rows_by rs n f g (same_figures f g) refl at

pub changes_read : (rs : List Row) (n : ℕ) (f g : Figures) → FiguresAt rs n f → replacing rs n f g ≡ moving n f g
unfolding replacing
changes_read rs n f g at = ap (λ (b : Bool). cond (same_figures f g) [] (cond b (Put n g ∷ []) [])) (lt-ltb n (length rs) (within rs n f at))

-- moves, each of which starts from what stands
all_rows : (rs : List Row) (ms : List Move) → Following rs ms → replaced_all rs ms ≡ moved_all rs ms
unfolding replaced_all
all_rows rs [] h = refl
all_rows rs (m ∷ ms) h = ap (λ (x : List Row). replaced_all x ms) (rows_read rs m.place m.before m.after h.0) ∙ all_rows (moved rs m) ms h.1

all_changes : (rs : List Row) (ms : List Move) → Following rs ms → replacing_all rs ms ≡ changes_of ms
unfolding replacing_all
all_changes rs [] h = refl
all_changes rs (m ∷ ms) h =
    ap (λ (x : List Row). replacing rs m.place m.before m.after ++ replacing_all x ms) (rows_read rs m.place m.before m.after h.0)
    ∙ ap (λ (xs : List Change). xs ++ replacing_all (moved rs m) ms) (changes_read rs m.place m.before m.after h.0)
    ∙ ap (λ (xs : List Change). moving m.place m.before m.after ++ xs) (all_changes (moved rs m) ms h.1)

pub rows_follow : (rs : List Row) (ms : List Move) → Following rs ms → replaced_all rs (in_order ms) ≡ moved_all rs ms
rows_follow rs ms h = let l = in_order_leads rs ms h in all_rows rs (in_order ms) l.0 ∙ l.1

pub changes_follow : (rs : List Row) (ms : List Move) → Following rs ms → replacing_all rs (in_order ms) ≡ changes_of (in_order ms)
changes_follow rs ms h = all_changes rs (in_order ms) (in_order_leads rs ms h).0
