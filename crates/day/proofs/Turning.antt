-- The loop over the turns.
use Rattle.std.proofs.Common.{◌≡◌, ℕ, ◌+◌, ◌<◌, ◌≤◌, Bool, true, false, cond, List, [], ◌∷◌, ◌++◌, length, get_or, take, set, Ok, Err, Result, sym, refl, ap, ◌∙◌, subst, arith}
use Rattle.std.proofs.lemmas.List.{length-map, length-set, get_or-map, map_push, map-set, set-get_or, take_all, take_more, take_more_set}
use Rattle.std.proofs.lemmas.List.Sums.{fold_more}
use Rattle.orders.specs.declared.Kind.TheVariants.{Market}
use Rattle.orders.specs.declared.PegFlag.TheVariants.{Pegged}
use Rattle.orders.specs.declared.Side.TheVariants.{Buy}
use Rattle.orders.specs.declared.refusal.Refusal.{Refusal}
use Rattle.orders.specs.declared.refusal.Refusal.TheVariants.{BadOpening}
use Rattle.book.specs.Calls.{opened, opening}
use Rattle.book.specs.Requests.{request_answer, request_book}
use Rattle.book.specs.declared.Book.{Book}
use Rattle.book.specs.declared.requests.Answer.TheVariants.{Entered}
use Rattle.book.specs.declared.requests.Request.{Request}
use Rattle.book.specs.declared.requests.Request.TheVariants.{Enter}
use Rattle.day.proofs.Changing.{Sound}
use Rattle.day.proofs.Deciding.{decided}
use Rattle.day.proofs.Running.{sound_begun, account_stays, follows}
use Rattle.day.proofs.Showing.{book_follows, answer_follows}
use Rattle.day.specs.Account.{Account, begun}
use Rattle.day.specs.Law.{book_of, requests, given_answers, Follows, Ran}
use Rattle.day.specs.Noting.{noted, answer_noted, account, answers}
use Rattle.day.specs.declared.Turn.{Turn}

-- what a place beyond the turns would hold
abbrev pub no_turn : Turn
no_turn = record { request = Enter (record { kind = Market; side = Buy; flag = Pegged; broker = 0; limit = 0; volume = 0 }); answer = Ok (Entered 0) }

-- an opening that is accepted shows the account's begin
pub opened_by : (holds : ℕ → Bool) (close : ℕ) (r : Result Book Refusal) (b : Book) → r ≡ opening holds close → r ≡ Ok b → (holds close ≡ true) × (b ≡ book_of (begun close))
opened_by holds close r b answer ok = go (holds close) refl (sym answer ∙ ok)
  where
    go : (t : Bool) → holds close ≡ t → ◌≡◌ {A = Result Book Refusal} (cond t (Ok (opened close)) (Err BadOpening)) (Ok b) → (holds close ≡ true) × (b ≡ book_of (begun close))
    go true held e = (held, (let same : opened close ≡ b = cc in sym same))
    go false held e = let zero_one : ◌≡◌ {A = ℕ} 0 1 = cc in absurd (omega arith)

-- the first n turns are made
pub record SoFar (holds : ℕ → Bool) (close : ℕ) (asked turns : List Turn) (b : Book) (n : ℕ) : Type 0 where
  pub within : n ≤ length turns
  pub same_length : length turns ≡ length asked
  pub same_requests : requests turns ≡ requests asked
  pub book : b ≡ book_of (account holds (begun close) (take n (requests asked)))
  pub answered : given_answers (take n turns) ≡ answers holds (begun close) (take n (requests asked))

module _ (holds : ℕ → Bool) where
  -- the answers with one request more
  answers_push : (a : Account) (rs : List Request) (r : Request) → answers holds a (rs ++ r ∷ []) ≡ answers holds a rs ++ answer_noted holds (account holds a rs) r ∷ []
  answers_push a [] r = refl
  answers_push a (x ∷ rs) r = ap (λ xs. answer_noted holds a x ∷ xs) (answers_push (noted holds a x) rs r)

  pub start : (close : ℕ) (turns : List Turn) (b : Book) → b ≡ book_of (begun close) → SoFar holds close turns turns b 0
  start close turns b e = record { within = omega arith; same_length = refl; same_requests = refl; book = e; answered = refl }

  pub turn_more : (close : ℕ) (asked turns : List Turn) (b next : Book) (n : ℕ) (d x : Turn) → SoFar holds close asked turns b n → n < length asked
      → x.request ≡ (get_or turns n d).request → x.answer ≡ request_answer holds b (get_or turns n d).request → next ≡ request_book holds b (get_or turns n d).request
      → SoFar holds close asked (set turns n x) next (n + 1)
  turn_more close asked turns b next n d x so left same answer moved =
      let short : n < length turns = omega (arith, left, so.same_length) in
      let rs = requests asked in
      let r = (get_or turns n d).request in
      let a = account holds (begun close) (take n rs) in
      let s : Sound a = (account_stays holds (begun close) (sound_begun close) (take n rs)).sound in
      let here : get_or rs n d.request ≡ r = ap (λ xs. get_or xs n d.request) (sym so.same_requests) ∙ get_or-map (λ turn. turn.request) turns n d d.request short in
      let inside : n < length rs = omega (arith, left, length-map asked (λ turn. turn.request)) in
      let more : account holds (begun close) (take (n + 1) rs) ≡ noted holds a r = fold_more (noted holds) (begun close) rs n d.request inside ∙ ap (noted holds a) here in
      let asked_more : take (n + 1) rs ≡ take n rs ++ r ∷ [] = take_more rs n d.request inside ∙ ap (λ q. take n rs ++ q ∷ []) here in
      record {
        within = omega (arith, short, length-set turns n x);
        same_length = length-set turns n x ∙ so.same_length;
        same_requests =
            map-set (λ turn. turn.request) turns n x
            ∙ ap (set (requests turns) n) (same ∙ sym (get_or-map (λ turn. turn.request) turns n d d.request short))
            ∙ set-get_or (requests turns) n d.request
            ∙ so.same_requests;
        book = moved ∙ ap (λ q. request_book holds q r) so.book ∙ book_follows holds a s.few r ∙ ap book_of (sym more);
        answered =
            ap given_answers (take_more_set turns n x short)
            ∙ map_push (λ turn. turn.answer) (take n turns) x
            ∙ ap (λ q. given_answers (take n turns) ++ q ∷ []) (answer ∙ ap (λ q. request_answer holds q r) so.book ∙ answer_follows holds a s.few r)
            ∙ ap (λ xs. xs ++ answer_noted holds a r ∷ []) so.answered
            ∙ sym (answers_push (begun close) (take n rs) r)
            ∙ ap (answers holds (begun close)) (sym asked_more);
      }

  -- all turns are made
  pub ran : (close : ℕ) (asked turns : List Turn) (b : Book) (n : ℕ) → holds close ≡ true → SoFar holds close asked turns b n → length asked ≤ n → Ran holds close asked turns b
  ran close asked turns b n opens so all =
      let rs = requests asked in
      let whole : take n rs ≡ rs = take_all n rs (omega (arith, all, length-map asked (λ turn. turn.request))) in
      let a = account holds (begun close) rs in
      let book : b ≡ book_of a = so.book ∙ ap (λ xs. book_of (account holds (begun close) xs)) whole in
      record {
        opens = opens;
        same_requests = so.same_requests;
        answered_all = ap given_answers (sym (take_all n turns (omega (arith, all, so.same_length)))) ∙ so.answered ∙ ap (answers holds (begun close)) whole;
        decided = λ x r. decided holds x r;
        follows = subst (λ q. Follows holds close rs a q) (sym book) (follows holds close rs);
      }
