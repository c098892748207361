-- The texts that stand in the opening store behind the literals, and what a table of lines says.
use Rattle.std.specs.Prelude.{ℕ, List, [], ◌∷◌, ◌++◌, ◌==◌, codes, if◌then◌else◌}

-- the names that the runtime itself reads and writes, and the words of `typeof` (ECMA-262 §13.5.3)
abbrev pub runtime_words : List (List ℕ)
runtime_words =
    codes "length" ∷ codes "size" ∷ codes "then" ∷ codes "prototype" ∷ codes "constructor" ∷ codes "name"
    ∷ codes "defaultValue" ∷ codes "triggerAsyncId" ∷ codes "init" ∷ codes "before" ∷ codes "after" ∷ codes "destroy"
    ∷ codes "undefined" ∷ codes "object" ∷ codes "boolean" ∷ codes "number" ∷ codes "string" ∷ codes "function"
    ∷ codes "message" ∷ codes "cause" ∷ codes "errors" ∷ codes "value" ∷ codes "done" ∷ []

-- the messages of errors
abbrev pub message_words : List (List ℕ)
message_words =
    codes "not a function" ∷ codes "not a constructor" ∷ codes "not iterable"
    ∷ codes "no property of undefined or null" ∷ codes "frozen" ∷ codes "generator is running"
    ∷ codes "promise resolved with itself" ∷ codes "class called without new" ∷ codes "wrong receiver"
    ∷ codes "bad argument" ∷ codes "not an object" ∷ codes "not initialised" ∷ codes "destroyed twice"
    ∷ codes "cannot find module" ∷ []

-- the other names of built-in properties and functions
abbrev pub member_words : List (List ℕ)
member_words =
    codes "log" ∷ codes "operation" ∷ codes "nextTick" ∷ codes "exit" ∷ codes "keys" ∷ codes "values"
    ∷ codes "entries" ∷ codes "assign" ∷ codes "freeze" ∷ codes "create" ∷ codes "getPrototypeOf" ∷ codes "hasOwn"
    ∷ codes "call" ∷ codes "apply" ∷ codes "bind" ∷ codes "isArray" ∷ codes "of" ∷ codes "from" ∷ codes "push"
    ∷ codes "pop" ∷ codes "shift" ∷ codes "unshift" ∷ codes "slice" ∷ codes "concat" ∷ codes "indexOf"
    ∷ codes "includes" ∷ codes "join" ∷ codes "reverse" ∷ codes "map" ∷ codes "forEach" ∷ codes "filter"
    ∷ codes "reduce" ∷ codes "find" ∷ codes "some" ∷ codes "every" ∷ codes "startsWith" ∷ codes "endsWith"
    ∷ codes "split" ∷ codes "repeat" ∷ codes "padStart" ∷ codes "padEnd" ∷ codes "charCodeAt" ∷ codes "isInteger"
    ∷ codes "isSafeInteger" ∷ codes "abs" ∷ codes "max" ∷ codes "min" ∷ codes "floor" ∷ codes "trunc" ∷ codes "sign"
    ∷ codes "get" ∷ codes "set" ∷ codes "has" ∷ codes "delete" ∷ codes "clear" ∷ codes "add" ∷ codes "resolve"
    ∷ codes "reject" ∷ codes "all" ∷ codes "allSettled" ∷ codes "race" ∷ codes "any" ∷ codes "withResolvers"
    ∷ codes "catch" ∷ codes "finally" ∷ codes "next" ∷ codes "return" ∷ codes "throw" ∷ codes "Variable"
    ∷ codes "run" ∷ codes "Snapshot" ∷ codes "wrap" ∷ codes "snapshot" ∷ codes "enterWith" ∷ codes "getStore"
    ∷ codes "disable" ∷ codes "runInAsyncScope" ∷ codes "emitDestroy" ∷ codes "asyncId" ∷ codes "createHook"
    ∷ codes "enable" ∷ codes "executionAsyncId" ∷ codes "executionAsyncResource" ∷ codes "on" ∷ codes "once"
    ∷ codes "off" ∷ codes "emit" ∷ codes "setTimeout" ∷ codes "setImmediate" ∷ codes "AsyncLocalStorage"
    ∷ codes "AsyncResource" ∷ codes "EventEmitter" ∷ codes "setInterval" ∷ codes "clearTimeout"
    ∷ codes "clearInterval" ∷ codes "clearImmediate" ∷ codes "MAX_SAFE_INTEGER" ∷ codes "MIN_SAFE_INTEGER"
    ∷ codes "require" ∷ codes "queueMicrotask" ∷ codes "Object" ∷ codes "Array" ∷ codes "String" ∷ codes "Number"
    ∷ codes "Boolean" ∷ codes "Error" ∷ codes "TypeError" ∷ codes "RangeError" ∷ codes "ReferenceError"
    ∷ codes "AggregateError" ∷ codes "Map" ∷ codes "Set" ∷ codes "Promise" ∷ []

unfoldable pub words : List (List ℕ)
words = runtime_words ++ message_words ++ member_words

-- the lines of a text of which `word` is read already, each ended by a line feed
abbrev pub lines_from : List ℕ → List ℕ → List (List ℕ)
lines_from word [] = []
lines_from word (u ∷ us) = if u == 0x0A then word ∷ lines_from [] us else lines_from (word ++ u ∷ []) us
