-- The built-in objects in the order of their numbers, from 0: an object before its members, and the prototype of a
-- constructor after the constructor's own members and before its own. What `require` gives comes last, without the members
-- that have a number already.
use Rattle.std.specs.Prelude.{ℕ, List, [], ◌∷◌, ◌++◌, map, length, Option, Some, None, position, slice_get, codes}
use Rattle.std.specs.Option.{option_and_then}
use Rattle.actx_value.specs.Texts.{texts_eq}
use Rattle.actx_value.specs.declared.ids.ObjId.{ObjId}
use Rattle.actx_value.specs.declared.caller_id.CallerId.{CallerId}
use Rattle.actx_value.specs.declared.caller_id.CallerId.TheVariants as callers
use Rattle.actx_table.specs.declared.built.Built.{Built}
use Rattle.actx_table.specs.declared.built.Built.TheVariants.{Native, Caller, Bundled}
use Rattle.actx_table.specs.declared.native_id.NativeId.{NativeId}
use Rattle.actx_table.specs.declared.native_id.NativeId.TheVariants as natives

-- an object with the path by which a program reaches it, and what a function is called as
pub record Row : Type 0 where
  pub path : List ℕ
  pub built : Option Built

abbrev other : List ℕ → Row
other path = record { path = path; built = None }

abbrev native : List ℕ → NativeId → Row
native path n = record { path = path; built = Some (Native n) }

abbrev caller : List ℕ → CallerId → Row
caller path n = record { path = path; built = Some (Caller n) }

-- a function of the bundle, by its place there
abbrev bundled : List ℕ → ℕ → Row
bundled path place = record { path = path; built = Some (Bundled place) }

-- what the host gives
abbrev pub hosts : List Row
hosts =
    other (codes "console")
    ∷ native (codes "console.log") natives.ConsoleLog
    ∷ other (codes "host")
    ∷ caller (codes "host.operation") callers.HostOperation
    ∷ other (codes "process")
    ∷ caller (codes "process.nextTick") callers.NextTick
    ∷ native (codes "process.exit") natives.ProcessExit
    ∷ native (codes "require") natives.Require
    ∷ []

-- timers and microtasks
abbrev pub timers : List Row
timers =
    caller (codes "setTimeout") callers.SetTimeout
    ∷ caller (codes "setInterval") callers.SetInterval
    ∷ caller (codes "setImmediate") callers.SetImmediate
    ∷ caller (codes "clearTimeout") callers.ClearTimeout
    ∷ caller (codes "clearInterval") callers.ClearInterval
    ∷ caller (codes "clearImmediate") callers.ClearImmediate
    ∷ caller (codes "queueMicrotask") callers.QueueMicrotask
    ∷ []

-- `Object` (ECMA-262 §20.1)
abbrev pub of_objects : List Row
of_objects =
    native (codes "Object") natives.Object
    ∷ native (codes "Object.keys") natives.ObjectKeys
    ∷ native (codes "Object.values") natives.ObjectValues
    ∷ native (codes "Object.entries") natives.ObjectEntries
    ∷ native (codes "Object.assign") natives.ObjectAssign
    ∷ native (codes "Object.freeze") natives.ObjectFreeze
    ∷ native (codes "Object.create") natives.ObjectCreate
    ∷ native (codes "Object.getPrototypeOf") natives.ObjectGetPrototypeOf
    ∷ native (codes "Object.hasOwn") natives.ObjectHasOwn
    ∷ other (codes "Object.prototype")
    ∷ []

-- functions (§20.2.3)
abbrev pub of_functions : List Row
of_functions =
    other (codes "Function.prototype")
    ∷ caller (codes "Function.prototype.call") callers.FunctionCall
    ∷ caller (codes "Function.prototype.apply") callers.FunctionApply
    ∷ caller (codes "Function.prototype.bind") callers.FunctionBind
    ∷ []

-- `Array` and arrays (§23.1)
abbrev pub of_arrays : List Row
of_arrays =
    native (codes "Array") natives.Array
    ∷ native (codes "Array.isArray") natives.ArrayIsArray
    ∷ native (codes "Array.of") natives.ArrayOf
    ∷ bundled (codes "Array.from") 7
    ∷ other (codes "Array.prototype")
    ∷ native (codes "Array.prototype.push") natives.ArrayPush
    ∷ native (codes "Array.prototype.pop") natives.ArrayPop
    ∷ native (codes "Array.prototype.shift") natives.ArrayShift
    ∷ native (codes "Array.prototype.unshift") natives.ArrayUnshift
    ∷ native (codes "Array.prototype.slice") natives.ArraySlice
    ∷ native (codes "Array.prototype.concat") natives.ArrayConcat
    ∷ native (codes "Array.prototype.indexOf") natives.ArrayIndexOf
    ∷ native (codes "Array.prototype.includes") natives.ArrayIncludes
    ∷ native (codes "Array.prototype.join") natives.ArrayJoin
    ∷ native (codes "Array.prototype.reverse") natives.ArrayReverse
    ∷ bundled (codes "Array.prototype.map") 0
    ∷ bundled (codes "Array.prototype.forEach") 1
    ∷ bundled (codes "Array.prototype.filter") 2
    ∷ bundled (codes "Array.prototype.reduce") 3
    ∷ bundled (codes "Array.prototype.find") 4
    ∷ bundled (codes "Array.prototype.some") 5
    ∷ bundled (codes "Array.prototype.every") 6
    ∷ []

-- `String` and texts (§22.1)
abbrev pub of_texts : List Row
of_texts =
    native (codes "String") natives.String
    ∷ other (codes "String.prototype")
    ∷ native (codes "String.prototype.slice") natives.StringSlice
    ∷ native (codes "String.prototype.indexOf") natives.StringIndexOf
    ∷ native (codes "String.prototype.includes") natives.StringIncludes
    ∷ native (codes "String.prototype.startsWith") natives.StringStartsWith
    ∷ native (codes "String.prototype.endsWith") natives.StringEndsWith
    ∷ native (codes "String.prototype.split") natives.StringSplit
    ∷ native (codes "String.prototype.repeat") natives.StringRepeat
    ∷ native (codes "String.prototype.padStart") natives.StringPadStart
    ∷ native (codes "String.prototype.padEnd") natives.StringPadEnd
    ∷ native (codes "String.prototype.charCodeAt") natives.StringCharCodeAt
    ∷ []

-- `Number`, `Boolean` and `Math` (§21.1, §20.3, §21.3)
abbrev pub of_numbers : List Row
of_numbers =
    native (codes "Number") natives.Number
    ∷ native (codes "Number.isInteger") natives.NumberIsInteger
    ∷ native (codes "Number.isSafeInteger") natives.NumberIsSafeInteger
    ∷ other (codes "Number.prototype")
    ∷ native (codes "Boolean") natives.Boolean
    ∷ other (codes "Boolean.prototype")
    ∷ other (codes "Math")
    ∷ native (codes "Math.abs") natives.MathAbs
    ∷ native (codes "Math.max") natives.MathMax
    ∷ native (codes "Math.min") natives.MathMin
    ∷ native (codes "Math.floor") natives.MathFloor
    ∷ native (codes "Math.trunc") natives.MathTrunc
    ∷ native (codes "Math.sign") natives.MathSign
    ∷ []

-- errors (§20.5)
abbrev pub of_errors : List Row
of_errors =
    native (codes "Error") natives.Error
    ∷ other (codes "Error.prototype")
    ∷ native (codes "TypeError") natives.TypeError
    ∷ other (codes "TypeError.prototype")
    ∷ native (codes "RangeError") natives.RangeError
    ∷ other (codes "RangeError.prototype")
    ∷ native (codes "ReferenceError") natives.ReferenceError
    ∷ other (codes "ReferenceError.prototype")
    ∷ native (codes "AggregateError") natives.AggregateError
    ∷ other (codes "AggregateError.prototype")
    ∷ []

-- Maps and Sets (§24.1, §24.2)
abbrev pub of_maps : List Row
of_maps =
    native (codes "Map") natives.Map
    ∷ other (codes "Map.prototype")
    ∷ native (codes "Map.prototype.get") natives.MapGet
    ∷ native (codes "Map.prototype.set") natives.MapSet
    ∷ native (codes "Map.prototype.has") natives.MapHas
    ∷ native (codes "Map.prototype.delete") natives.MapDelete
    ∷ native (codes "Map.prototype.clear") natives.MapClear
    ∷ bundled (codes "Map.prototype.forEach") 8
    ∷ native (codes "Set") natives.Set
    ∷ other (codes "Set.prototype")
    ∷ native (codes "Set.prototype.add") natives.SetAdd
    ∷ native (codes "Set.prototype.has") natives.SetHas
    ∷ native (codes "Set.prototype.delete") natives.SetDelete
    ∷ native (codes "Set.prototype.clear") natives.SetClear
    ∷ bundled (codes "Set.prototype.forEach") 9
    ∷ []

-- promises and generators (§27.2, §27.5)
abbrev pub of_promises : List Row
of_promises =
    caller (codes "Promise") callers.Promise
    ∷ caller (codes "Promise.resolve") callers.PromiseResolve
    ∷ caller (codes "Promise.reject") callers.PromiseReject
    ∷ bundled (codes "Promise.all") 12
    ∷ bundled (codes "Promise.allSettled") 13
    ∷ bundled (codes "Promise.race") 14
    ∷ bundled (codes "Promise.any") 15
    ∷ bundled (codes "Promise.withResolvers") 16
    ∷ other (codes "Promise.prototype")
    ∷ caller (codes "Promise.prototype.then") callers.PromiseThen
    ∷ bundled (codes "Promise.prototype.catch") 10
    ∷ bundled (codes "Promise.prototype.finally") 11
    ∷ other (codes "Generator.prototype")
    ∷ caller (codes "Generator.prototype.next") callers.GeneratorNext
    ∷ caller (codes "Generator.prototype.return") callers.GeneratorReturn
    ∷ caller (codes "Generator.prototype.throw") callers.GeneratorThrow
    ∷ []

-- `AsyncContext`
abbrev pub of_contexts : List Row
of_contexts =
    other (codes "AsyncContext")
    ∷ caller (codes "AsyncContext.Variable") callers.Variable
    ∷ other (codes "AsyncContext.Variable.prototype")
    ∷ caller (codes "AsyncContext.Variable.prototype.get") callers.VariableGet
    ∷ caller (codes "AsyncContext.Variable.prototype.run") callers.VariableRun
    ∷ caller (codes "AsyncContext.Snapshot") callers.Snapshot
    ∷ caller (codes "AsyncContext.Snapshot.wrap") callers.SnapshotWrap
    ∷ other (codes "AsyncContext.Snapshot.prototype")
    ∷ caller (codes "AsyncContext.Snapshot.prototype.run") callers.SnapshotRun
    ∷ []

-- `AsyncLocalStorage`
abbrev pub of_storages : List Row
of_storages =
    caller (codes "AsyncLocalStorage") callers.Storage
    ∷ caller (codes "AsyncLocalStorage.bind") callers.StorageBind
    ∷ caller (codes "AsyncLocalStorage.snapshot") callers.StorageSnapshot
    ∷ other (codes "AsyncLocalStorage.prototype")
    ∷ caller (codes "AsyncLocalStorage.prototype.run") callers.StorageRun
    ∷ caller (codes "AsyncLocalStorage.prototype.exit") callers.StorageExit
    ∷ caller (codes "AsyncLocalStorage.prototype.enterWith") callers.StorageEnterWith
    ∷ caller (codes "AsyncLocalStorage.prototype.getStore") callers.StorageGetStore
    ∷ caller (codes "AsyncLocalStorage.prototype.disable") callers.StorageDisable
    ∷ []

-- `AsyncResource`
abbrev pub of_resources : List Row
of_resources =
    caller (codes "AsyncResource") callers.Resource
    ∷ caller (codes "AsyncResource.bind") callers.ResourceBindFunction
    ∷ other (codes "AsyncResource.prototype")
    ∷ caller (codes "AsyncResource.prototype.runInAsyncScope") callers.ResourceRunInAsyncScope
    ∷ caller (codes "AsyncResource.prototype.emitDestroy") callers.ResourceEmitDestroy
    ∷ caller (codes "AsyncResource.prototype.asyncId") callers.ResourceAsyncId
    ∷ caller (codes "AsyncResource.prototype.triggerAsyncId") callers.ResourceTriggerAsyncId
    ∷ caller (codes "AsyncResource.prototype.bind") callers.ResourceBind
    ∷ []

-- what `require` gives
abbrev pub of_modules : List Row
of_modules =
    other (codes "async_hooks")
    ∷ caller (codes "async_hooks.createHook") callers.CreateHook
    ∷ other (codes "Hook.prototype")
    ∷ caller (codes "Hook.prototype.enable") callers.HookEnable
    ∷ caller (codes "Hook.prototype.disable") callers.HookDisable
    ∷ caller (codes "async_hooks.executionAsyncId") callers.ExecutionAsyncId
    ∷ caller (codes "async_hooks.triggerAsyncId") callers.TriggerAsyncId
    ∷ caller (codes "async_hooks.executionAsyncResource") callers.ExecutionAsyncResource
    ∷ native (codes "events") natives.EventEmitter
    ∷ other (codes "events.prototype")
    ∷ bundled (codes "events.prototype.on") 19
    ∷ bundled (codes "events.prototype.once") 20
    ∷ bundled (codes "events.prototype.off") 21
    ∷ bundled (codes "events.prototype.emit") 22
    ∷ other (codes "timers")
    ∷ other (codes "timers/promises")
    ∷ bundled (codes "timers/promises.setTimeout") 17
    ∷ bundled (codes "timers/promises.setImmediate") 18
    ∷ []

abbrev pub rows : List Row
rows = hosts ++ timers ++ of_objects ++ of_functions ++ of_arrays ++ of_texts ++ of_numbers
    ++ of_errors ++ of_maps ++ of_promises ++ of_contexts ++ of_storages ++ of_resources ++ of_modules

-- what the function of this number is called as, where there is one
abbrev pub callable_of : ObjId → Option Built
callable_of o = option_and_then (λ b. b) (slice_get (map (λ r. r.built) rows) o.0)

-- the number of the object with this path
abbrev pub number_at : List ℕ → Option ℕ
number_at path = position (texts_eq path) (map (λ r. r.path) rows)

-- how many there are
abbrev pub count : ℕ
count = length rows
