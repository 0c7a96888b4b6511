-- Lines that are drawn one after another.
use Rattle.std.proofs.Common.{◌≡◌, ℕ, suc, ◌+◌, List, [], ◌∷◌, ◌++◌, length, map, refl, sym, ap, ◌∙◌, append_assoc, arith}
use Rattle.std.proofs.lemmas.List.{append-nil}
use Rattle.book_scope_plan.specs.declared.bar.Bar.{Bar}
use Rattle.book_scope_plan.specs.BarOrders.{plan_time}
use Rattle.book_scope_plan.specs.Bars.{shown_bar}
use Rattle.page_draw_plan_svg.specs.PlanLines.{PlanLine, Barred}
use Rattle.page_draw_plan_svg.specs.PlanPictures.{bar_svg, line_svg, lines_svg}
use Rattle.book_keys.specs.declared.plan.Plan.{Plan}
use Rattle.book_plans.specs.declared.finding.Finding.{Finding}
use Rattle.draw_plan.specs.declared.wrong.Connected.{Connected}
use Rattle.draw_plan.specs.Draws.{Draws, bars_svg, judged_of}
use Rattle.toml.specs.Data.{Members}

module _ (document : Members) (plan : Plan) where
  pub lines_append : (n : ℕ) (xs ys : List PlanLine)
      → lines_svg document plan n (xs ++ ys) ≡ lines_svg document plan n xs ++ lines_svg document plan (n + length xs) ys
  lines_append n [] ys = let same : n + 0 ≡ n = omega arith in rw same refl
  lines_append n (x ∷ xs) ys =
      let same : n + suc (length xs) ≡ n + 1 + length xs = omega arith in
      rw (same, lines_append (n + 1) xs ys) (sym (append_assoc (line_svg document plan n x) (lines_svg document plan (n + 1) xs) (lines_svg document plan (n + 1 + length xs) ys)))

  pub draws_none : (before : List ℕ) (line : ℕ) → Draws document plan [] before line before line
  draws_none before line = record { text = sym (append-nil before); count = omega arith }

  pub draws_one : (l : PlanLine) (before after : List ℕ) (line : ℕ) → after ≡ before ++ line_svg document plan line l
      → Draws document plan (l ∷ []) before line after (line + 1)
  draws_one l before after line is = record { text = is ∙ ap (λ (x : List ℕ). before ++ x) (sym (append-nil (line_svg document plan line l))); count = refl }

  pub draws_then : (xs ys : List PlanLine) (before : List ℕ) (line : ℕ) (between : List ℕ) (middle : ℕ) (after : List ℕ) (next : ℕ)
      → Draws document plan xs before line between middle → Draws document plan ys between middle after next → Draws document plan (xs ++ ys) before line after next
  draws_then xs ys before line between middle after next one two = record {
    text =
        two.text ∙ rw (one.text, one.count) (append_assoc before (lines_svg document plan line xs) (lines_svg document plan (line + length xs) ys))
        ∙ ap (λ (x : List ℕ). before ++ x) (sym (lines_append line xs ys));
    count = two.count ∙ rw one.count (counted line xs ys);
  }
    where
      counted : (n : ℕ) (us vs : List PlanLine) → n + length us + length vs ≡ n + length (us ++ vs)
      counted n [] vs = omega arith
      counted n (u ∷ us) vs = let more = counted n us vs in omega arith

  bars_lines : (ends : Connected) (fs : List Finding) (bars : List Bar) (line : ℕ)
      → bars_svg document (plan_time plan) ends line bars ≡ lines_svg document plan line (map (Barred (judged_of ends fs)) bars)
  bars_lines ends fs [] line = refl
  bars_lines ends fs (bar ∷ bars) line =
      ap (λ (x : List ℕ). bar_svg document line (shown_bar ends.tables.a.now ends.tables.b.now ends.pair (plan_time plan) bar) ++ x)
      (bars_lines ends fs bars (line + 1))

  bars_length : (ends : Connected) (fs : List Finding) (bars : List Bar) → length bars ≡ length (map (Barred (judged_of ends fs)) bars)
  bars_length ends fs [] = refl
  bars_length ends fs (bar ∷ bars) = ap suc (bars_length ends fs bars)

  pub bars_drawn : (ends : Connected) (fs : List Finding) (bars : List Bar) (before after : List ℕ) (line next : ℕ)
      → after ≡ before ++ bars_svg document (plan_time plan) ends line bars → next ≡ line + length bars
      → Draws document plan (map (Barred (judged_of ends fs)) bars) before line after next
  bars_drawn ends fs bars before after line next text count = record {
    text = text ∙ ap (λ (x : List ℕ). before ++ x) (bars_lines ends fs bars line);
    count = count ∙ ap (λ (n : ℕ). line + n) (bars_length ends fs bars);
  }
