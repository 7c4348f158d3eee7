-- Two states are one where all that is written down in them is.
use Rattle.std.proofs.Common.{◌≡◌, ℕ, List, ap, ◌∙◌}
use Rattle.zt_model.specs.Rows.{Rows}
use Rattle.zt_model.specs.Says.{Sends}
use Rattle.zt_samples.specs.declared.samples.News.{News}
use Rattle.zt_samples.specs.declared.samples.Subscriber.{Subscriber}
use Rattle.zt_samples.specs.declared.samples.Told.{Told}
use Rattle.zt_liveliness.specs.Lively.{Lively}
use Rattle.zt_liveliness.specs.declared.books.Query.{Query}
use Rattle.zt_liveliness.specs.declared.books.Session.{Session}

module _ {K : Type 0} where
  pub alike : (l m : Lively K) → l.rows ≡ m.rows → l.waiting ≡ m.waiting → l.sessions ≡ m.sessions → l.uplinks ≡ m.uplinks → l.queries ≡ m.queries → l.subscribers ≡ m.subscribers → l.told ≡ m.told → l.news ≡ m.news → l ≡ m
  alike l m rows waiting sessions uplinks queries subscribers told news =
      ap (λ (x : Rows K). record l { rows = x }) rows
      ∙ ap (λ (x : Sends K). record l { rows = m.rows; waiting = x }) waiting
      ∙ ap (λ (x : List Session). record l { rows = m.rows; waiting = m.waiting; sessions = x }) sessions
      ∙ ap (λ (x : List ℕ). record l { rows = m.rows; waiting = m.waiting; sessions = m.sessions; uplinks = x }) uplinks
      ∙ ap (λ (x : List Query). record l { rows = m.rows; waiting = m.waiting; sessions = m.sessions; uplinks = m.uplinks; queries = x }) queries
      ∙ ap (λ (x : List (Subscriber K)). record m { subscribers = x; told = l.told; news = l.news }) subscribers
      ∙ ap (λ (x : List (Told K)). record m { told = x; news = l.news }) told
      ∙ ap (λ (x : List (News K)). record m { news = x }) news
