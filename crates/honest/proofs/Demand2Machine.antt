-- Demand 2 of every machine that keeps to the rows.
use Prim.Native.Nat.{ℕ}
use mathlib.Core.Path.{◌≡◌, refl, sym, ap, ◌∙◌}
use mathlib.Core.List.{List, [], ◌∷◌}
use Rattle.rows.specs.Rows.{Ask, View, filter, answer_of, place_by, after}
use Rattle.rows.specs.Connections.{connections}
use Rattle.honest.specs.Machine.{Reading, refused, asks, apart, Machine, KeepsTo}
use Rattle.honest.specs.Demand2.{fresh, view_after, AllPlaceable, state_after, with_ask, asked, MachineFollows, Demand2Of}
use Rattle.honest.proofs.Demand2Lists.{demand2}

module _
    (M : Machine) (Sound : M.State → Type 0) (keeps : KeepsTo M Sound)
    (s₀ : M.State) (sound : Sound s₀) (n : ℕ) (begins : M.view s₀ ≡ fresh connections n) where
  pub stays-sound : (l : List M.Call) → Sound (state_after M s₀ l)
  unfolding state_after
  stays-sound [] = sound
  stays-sound (q ∷ l) = keeps.sound_kept (state_after M s₀ l) q (stays-sound l)

  with-ask : (q : M.Call) (r : Reading Ask) (l : List Ask) → M.reads q ≡ r → AllPlaceable l → AllPlaceable (with_ask r l)
  unfolding AllPlaceable
  with-ask q (refused m place) l e before = before
  with-ask q (asks a) l e before = (keeps.well_formed q a e, before)
  with-ask q apart l e before = before

  all-placeable : (l : List M.Call) → AllPlaceable (asked M l)
  unfolding asked AllPlaceable
  all-placeable [] = tt
  all-placeable (q ∷ l) = with-ask q (M.reads q) (asked M l) refl (all-placeable l)

  -- one call more
  view-next :
      (s : M.State) (q : M.Call) (r : Reading Ask) (l : List Ask) → Sound s → M.reads q ≡ r →
      M.view s ≡ view_after connections n l →
      M.view (M.run s q).next ≡ view_after connections n (with_ask r l)
  unfolding view_after
  view-next s q (refused m place) l sound-s e before =
      keeps.blocked_keeps s q (λ zero-answer. keeps.refusal_blocks q m place e (sym (keeps.refusal_answered s q m place sound-s e) ∙ zero-answer)) ∙ before
  view-next s q (asks a) l sound-s e before =
      keeps.view_by_rows s q a sound-s e ∙ ap (λ (v : View connections). after connections v (filter connections v a)) before
  view-next s q apart l sound-s e before = keeps.apart_keeps s q sound-s e ∙ before

  view-after : (l : List M.Call) → M.view (state_after M s₀ l) ≡ view_after connections n (asked M l)
  unfolding state_after asked view_after
  view-after [] = begins
  view-after (q ∷ l) = view-next (state_after M s₀ l) q (M.reads q) (asked M l) (stays-sound l) refl (view-after l)

  machine_follows : (l : List M.Call) → MachineFollows M s₀ n l
  machine_follows l =
      let s = state_after M s₀ l in
      let follows = demand2 n (asked M l) (all-placeable l) in
      record {
        table = view-after l ∙ follows.table;
        answer = λ q a e.
            keeps.answer_by_rows s q a (stays-sound l) e
            ∙ ap (λ (v : View connections). answer_of connections (filter connections v a)) (view-after l)
            ∙ follows.answer a (keeps.well_formed q a e);
        place = λ q a e.
            keeps.place_by_rows s q a (stays-sound l) e
            ∙ ap (λ (v : View connections). place_by M.number (filter connections v a)) (view-after l)
            ∙ follows.place M.number a (keeps.well_formed q a e);
        all_places = λ q a e.
            rw (keeps.answer_by_rows s q a (stays-sound l) e
            ∙ ap (λ (v : View connections). answer_of connections (filter connections v a)) (view-after l))
            (follows.all_places a (keeps.well_formed q a e));
        refusal_answer = λ q m place e. keeps.refusal_answered s q m place (stays-sound l) e;
        refusal_place = λ q m place e. keeps.refusal_placed s q m place (stays-sound l) e;
        apart_stays = λ q e. keeps.apart_keeps s q (stays-sound l) e;
      }

pub demand2-of : (M : Machine) (Sound : M.State → Type 0) → KeepsTo M Sound → Demand2Of M Sound
demand2-of M Sound keeps s₀ sound n begins = machine_follows M Sound keeps s₀ sound n begins
