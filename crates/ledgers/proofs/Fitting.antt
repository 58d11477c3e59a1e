-- What goes with a slip that is held, and with none. Assumes nothing.
use Rattle.std.proofs.Common.{◌≡◌, ℕ, true, not, is_some, arith, Some, None, Err, Option, Result, sym, refl, ◌∙◌, subst}
use Rattle.kinds.specs.Refusals.{refusal}
use Rattle.kinds.specs.declared.refusal.Refusal.{Refusal}
use Rattle.kinds.specs.declared.laws.Kind as Kind
use Rattle.kinds.specs.declared.laws.Reckoned as Reckoned
use Rattle.ledgers.specs.Holding.{fit}
use Rattle.sheets.proofs.Keeping.{follows_no}
use Rattle.sheets.specs.History.{Call, asks, first, refuses, takes_slip}
use Rattle.sheets.specs.Sheets.{Follows, stands}
use Rattle.sheets.specs.declared.sheet.Sheet.{Sheet}
use Rattle.sheets.specs.declared.slip.Slip.{Slip}
use Rattle.std.proofs.lemmas.Bool.{eqb-true, eq-eqb, false≢true}
use Rattle.std.specs.Option.{ok_or}

-- with no slip nothing is parked
pub unparked : (u : ℕ) (o : Option ℕ) → fit None u o ≡ true → o ≡ None
unparked u None h = refl
unparked u (Some t) h = absurd (false≢true h)

-- a slip that is held bears the unit number
slip_unit : (slip : Slip) (u : ℕ) (o : Option ℕ) → fit (Some slip) u o ≡ true → slip.unit ≡ u
slip_unit slip u None h = absurd (false≢true h)
slip_unit slip u (Some t) h = eqb-true slip.unit u h

pub held_unit : (o : Option Slip) (slip : Slip) (u : ℕ) (p : Option ℕ) → o ≡ Some slip → fit o u p ≡ true → slip.unit ≡ u
held_unit o slip u p is h = slip_unit slip u p (subst (λ z. fit z u p ≡ true) is h)

-- without a slip, a call that takes one is refused, and nothing is altered
pub no_slip : {K : Type 0} (N : Kind.Ghosts K) (R : Reckoned.Ghosts K) (s : Sheet K) (held left : Option Slip) (c : Call K) → refuses (stands s) c ≡ takes_slip (stands s) s.unit → held ≡ None → left ≡ None → fit held s.unit s.parked ≡ true → (fit left s.unit s.parked ≡ true) × (Some (refusal 5) ≡ refuses (stands s) c) × (left ≡ held) × Follows N R c s s (Err (refusal 5))
no_slip N R s held left c asks none after h =
    let fits = subst (λ z. fit z s.unit s.parked ≡ true) none h in
    let turned : takes_slip (stands s) s.unit ≡ Some (refusal 5) = rw (unparked s.unit s.parked fits) in
    (subst (λ z. fit z s.unit s.parked ≡ true) (sym after) fits, sym (asks ∙ turned), after ∙ sym none, follows_no N R c s (refusal 5) (asks ∙ turned))

-- a slip that goes with no parking is none
pub nothing_held : (h : Option Slip) (u : ℕ) (o : Option ℕ) → o ≡ None → fit h u o ≡ true → h ≡ None
nothing_held None u o is h = refl
nothing_held (Some slip) u o is h = absurd (false≢true (subst (λ z. fit (Some slip) u z ≡ true) is h))

-- where parking is not refused, nothing is held
pub none_before : (h : Option Slip) (u : ℕ) (o : Option ℕ) (f : Option Refusal) → None ≡ first (asks (not (is_some o)) 4) f → fit h u o ≡ true → h ≡ None
none_before h u None f passes fits = nothing_held h u None refl fits
none_before h u (Some t) f passes fits = let z : ◌≡◌ {A = ℕ} 0 1 = cc in absurd (omega arith)

-- why none is told where none is held
pub told_none : (held : Option Slip) (told : Result Slip Refusal) (why f : Refusal) → told ≡ ok_or held f → held ≡ None → told ≡ Err why → why ≡ f
told_none held told why f is none so = cc

-- a slip just handed out goes with its sheet
pub fits_parked : (slip : Slip) (u : ℕ) (o : Option ℕ) (n : ℕ) → slip.unit ≡ u → o ≡ Some n → fit (Some slip) u o ≡ true
fits_parked slip u o n same is = rw is (eq-eqb slip.unit u same)

pub fits_unparked : (h : Option Slip) (u : ℕ) (o : Option ℕ) → h ≡ None → o ≡ None → fit h u o ≡ true
fits_unparked h u o e f = rw (e, f)
