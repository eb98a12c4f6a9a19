-- The jobs of a state's rows: only an announcement changes them, by appending what it announces.
-- So the rows of a run are its announcements, in order. Rests on the tick rules.
use Prim.Native.Nat.{ℕ, zero, suc}
use mathlib.Core.Path.{◌≡◌, refl, sym, ap, ◌∙◌}
use mathlib.Core.Option.{Option, none, some}
use mathlib.Core.List.{List, [], ◌∷◌, ◌++◌, map, append_assoc, append-nil, map-append}
use lib.ListN.{length}
use lib.Seq.{map-set_same}
use Rattle.rules.specs.Job.{Job}
use Rattle.rules.specs.State.{Fate, Row, Proc, Entry, State, no_row, mark, taken, finished, dropped, idle, running}
use Rattle.rules.specs.Picks.{Picks}
use Rattle.rules.specs.Announce.{start, preempt, offer_to, append, announce}
use Rattle.rules.specs.Finish.{settle_finished, go_idle, resume, offer_earlier, start_first, run_next, finish_row, finish_of, finish}
use Rattle.rules.specs.LatestStarts.{displace, take_over, drop_row, decide, if_found, decide_all}
use Rattle.rules.specs.Give.{one_less, give_to}
use Rattle.rules.specs.Run.{decided, tick}
use Rattle.rules.proofs.Choose.{by_test}

abbrev pub jobs_of : State → List Job
jobs_of s = map (λ (r : Row). r.job) s.rows

jobs_mark : (i : ℕ) (f : Fate) (rows : List Row) → map (λ (r : Row). r.job) (mark i f rows) ≡ map (λ (r : Row). r.job) rows
jobs_mark i f rows = map-set_same (λ (r : Row). r.job) rows i _ no_row refl

jobs_displaced : (rows : List Row) → map (λ (r : Row). r.job) (map displace rows) ≡ map (λ (r : Row). r.job) rows
unfolding displace
jobs_displaced [] = refl
jobs_displaced (r ∷ rows) = ap (λ (js : List Job). r.job ∷ js) (jobs_displaced rows)

offer_to_jobs : (pr : Proc) (t i : ℕ) (s : State) → jobs_of (offer_to pr t i s) ≡ jobs_of s
unfolding offer_to start preempt
offer_to_jobs idle t i s = jobs_mark i taken s.rows
offer_to_jobs (running r) t i s = by_test (λ (s' : State). jobs_of s' ≡ jobs_of s) _ (λ _. jobs_mark i taken s.rows) (λ _. refl)

start_first_jobs : (o : Option ℕ) (t : ℕ) (s : State) → jobs_of (start_first o t s) ≡ jobs_of s
unfolding start_first start go_idle
start_first_jobs none t s = refl
start_first_jobs (some i) t s = jobs_mark i taken s.rows

offer_earlier_jobs : (o : Option ℕ) (t r : ℕ) (s : State) → jobs_of (offer_earlier o t r s) ≡ jobs_of s
unfolding offer_earlier
offer_earlier_jobs none t r s = refl
offer_earlier_jobs (some i) t r s = by_test (λ (s' : State). jobs_of s' ≡ jobs_of s) _ (λ _. offer_to_jobs s.proc t i s) (λ _. refl)

run_next_jobs : (p : Picks) (es : List Entry) (t : ℕ) (s : State) → jobs_of (run_next p es t s) ≡ jobs_of s
unfolding run_next resume
run_next_jobs p [] t s = start_first_jobs (p.first s.rows) t s
run_next_jobs p (e ∷ rest) t s = offer_earlier_jobs (p.first s.rows) t e.row (resume t e rest s)

finish_of_jobs : (p : Picks) (pr : Proc) (t : ℕ) (s : State) → jobs_of (finish_of p pr t s) ≡ jobs_of s
unfolding finish_of finish_row settle_finished
finish_of_jobs p idle t s = refl
finish_of_jobs p (running r) t s =
    by_test (λ (s' : State). jobs_of s' ≡ jobs_of s) _
    (λ _. run_next_jobs p s.delayed t (settle_finished t r s) ∙ jobs_mark r (finished t) s.rows)
    (λ _. refl)

announce_jobs : (t : ℕ) (js : List Job) (s : State) → jobs_of (announce t js s) ≡ jobs_of s ++ js
unfolding announce append
announce_jobs t [] s = sym (append-nil (jobs_of s))
announce_jobs t (j ∷ js) s =
    announce_jobs t js _
    ∙ ap (λ (xs : List Job). xs ++ js) (offer_to_jobs s.proc t (length s.rows) (append j s) ∙ map-append (λ (r : Row). r.job) s.rows _)
    ∙ append_assoc (jobs_of s) (j ∷ []) js

decide_jobs : (t i : ℕ) (s : State) → jobs_of (decide t i s) ≡ jobs_of s
unfolding decide take_over drop_row
decide_jobs t i s =
    by_test (λ (s' : State). jobs_of s' ≡ jobs_of s) _
    (λ _. jobs_mark i taken (map displace s.rows) ∙ jobs_displaced s.rows)
    (λ _. jobs_mark i (dropped t) s.rows)

if_found_jobs : (o : Option ℕ) (s : State) (f : ℕ → State) → ((i : ℕ) → jobs_of (f i) ≡ jobs_of s) → jobs_of (if_found o s f) ≡ jobs_of s
unfolding if_found
if_found_jobs none s f k = refl
if_found_jobs (some i) s f k = k i

decide_all_jobs : (p : Picks) (k t : ℕ) (s : State) → jobs_of (decide_all p k t s) ≡ jobs_of s
unfolding decide_all
decide_all_jobs p zero t s = refl
decide_all_jobs p (suc k) t s = if_found_jobs (p.next t s.rows) s _ (λ i. decide_all_jobs p k t (decide t i s) ∙ decide_jobs t i s)

give_to_jobs : (pr : Proc) (t : ℕ) (s : State) → jobs_of (give_to pr t s) ≡ jobs_of s
unfolding give_to one_less
give_to_jobs idle t s = refl
give_to_jobs (running r) t s = map-set_same (λ (x : Row). x.job) s.rows r _ no_row refl

pub decided_jobs : (p : Picks) (t : ℕ) (js : List Job) (s : State) → jobs_of (decided p t js s) ≡ jobs_of s ++ js
unfolding decided
decided_jobs p t js s =
    decide_all_jobs p _ t (announce t js (finish p t s))
    ∙ announce_jobs t js (finish p t s)
    ∙ ap (λ (xs : List Job). xs ++ js) (finish_of_jobs p s.proc t s)

pub tick_jobs : (p : Picks) (t : ℕ) (js : List Job) (s : State) → jobs_of (tick p t js s) ≡ jobs_of s ++ js
unfolding tick
tick_jobs p t js s = give_to_jobs (decided p t js s).proc t (decided p t js s) ∙ decided_jobs p t js s
